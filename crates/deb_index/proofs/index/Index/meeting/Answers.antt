-- Of the packages that meet the alternative by name those that meet it are kept.
use Rattle.std.proofs.Common.{rules, ap, ◌∙◌}
use Rattle.std.specs.List.{filter}
use Rattle.std.proofs.lemmas.Fn.{filter_same}
use Rattle.deb_relation.specs.Environments.{environment_of}
use Rattle.deb_relation.specs.Views.{alternative_of}
use Rattle.deb_index.specs.Indexes.{packages_of}
use Rattle.deb_index.specs.Meeting.{meets}
use Rattle.deb_index.proofs.ByName.{passing_at, retained-meeting}
use Rattle.deb_index.proofs.index.Index.meeting.Goals as goal

pub returns : goal.returns
returns c =
    let environment = environment_of c.args.environment.now in
    let a = alternative_of c.args.alternative.now in
    let packages = packages_of c.args.self.now in
    filter_same _ (passing_at (meets environment a) packages) _ (λ x b f k. search rules) _ _ c.retain.ensures.filtered
    ∙ ap (filter (passing_at (meets environment a) packages)) c.in_ok-numbers.ensures
    ∙ retained-meeting environment a packages
