use Rattle.std.proofs.Common.{codes, ◌++◌, ap, ◌∙◌}
use Rattle.deb_control.specs.FieldWords.{groups_of, value_under}
use Rattle.deb_relation.specs.Environments.{environment_of}
use Rattle.deb_relation.specs.Views.{names_of}
use Rattle.deb_install.specs.Buildable.{implied_groups}
use Rattle.deb_install.proofs.BuiltGroups.{built-texts}
use Rattle.deb_install.proofs.BuiltRows.{implied-regular, implied-text}
use Rattle.deb_install.proofs.SureTexts.{texts_of}
use Rattle.deb_install.proofs.source_reason_lines.build_texts.Goals as goal

pub returns : goal.returns
returns c = λ values has.
    let environment = environment_of c.args.needing.now.environment.now in
    built-texts environment values (names_of c.append_sure.new.out.items) (names_of c.append_sure-2.new.out.items) (names_of c.append_sure-3.new.out.items) (names_of c.append_sure-4.new.out.items)
    (c.in_ok-append_sure.ensures implied_groups implied-regular implied-text ∙ ap (λ l. names_of l ++ texts_of environment implied_groups) c.new-found.ensures.items)
    (c.in_ok-append_sure-2.ensures (groups_of (value_under (codes "Build-Depends") values)) has.depends.regular (c.deref.ensures.value ∙ has.depends.is))
    (c.in_ok-append_sure-3.ensures (groups_of (value_under (codes "Build-Depends-Arch") values)) has.depends_arch.regular (c.deref-2.ensures.value ∙ has.depends_arch.is))
    (c.in_ok-append_sure-4.ensures (groups_of (value_under (codes "Build-Depends-Indep") values)) has.depends_indep.regular (c.deref-3.ensures.value ∙ has.depends_indep.is))
