use Rattle.std.proofs.Common.{[], get_or, ap, ◌∙◌}
use Rattle.deb_relation.specs.Environments.{environment_of}
use Rattle.deb_relation.specs.Views.{names_of}
use Rattle.deb_install.specs.SourceExplaining.{built_groups}
use Rattle.deb_install.proofs.BuiltGroups.{text-at}
use Rattle.deb_install.proofs.source_reason_lines.build_text_at.Goals as goal

pub returns : goal.returns
returns c = λ values has.
    c.text_at.ensures
    ∙ ap (λ l. get_or (names_of l) c.args.at []) c.deref.ensures.value
    ∙ ap (λ l. get_or l c.args.at []) (c.in_ok-texts.ensures values has)
    ∙ text-at (built_groups (environment_of c.args.listing.now.environment.now) values) c.args.at
