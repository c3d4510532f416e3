-- Of the packages under the name those that meet the alternative are kept.
use Rattle.std.proofs.Common.{rules, ap, ◌∙◌}
use Rattle.std.specs.List.{filter}
use Rattle.std.proofs.lemmas.Fn.{filter_same}
use Rattle.deb_relation.specs.Views.{alternative_of}
use Rattle.deb_index.specs.Indexes.{packages_of}
use Rattle.deb_index.specs.Meeting.{meets_by_name}
use Rattle.deb_index.proofs.ByName.{passing_at, retained}
use Rattle.deb_index.proofs.index.Index.meeting_by_name.Goals as goal

pub returns-in-Some : goal.returns-in-Some
returns-in-Some c = c.numbers_offered.ensures (alternative_of c.args.alternative.now) c.in-Some.ensures

pub returns : goal.returns
returns c =
    let a = alternative_of c.args.alternative.now in
    let packages = packages_of c.args.self.now in
    filter_same _ (passing_at (meets_by_name a) packages) _ (λ x b f k. search rules) _ _ c.retain.ensures.filtered
    ∙ ap (filter (passing_at (meets_by_name a) packages)) c.in_ok-numbers.ensures
    ∙ retained a packages c.name.result.now c.name.ensures
