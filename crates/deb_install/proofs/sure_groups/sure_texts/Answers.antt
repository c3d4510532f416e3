use Rattle.std.proofs.Common.{codes, ◌++◌, ap, ◌∙◌, subst}
use Rattle.deb_control.specs.FieldWords.{groups_of, value_under}
use Rattle.deb_relation.specs.Environments.{environment_of}
use Rattle.deb_relation.specs.Views.{names_of}
use Rattle.deb_unmet.specs.Asked.{fields_with}
use Rattle.deb_unmet.specs.Paragraphs.{HaveRelations}
use Rattle.deb_install.proofs.NeededRows.{first-text, second-text, third-text}
use Rattle.deb_install.proofs.SureTexts.{texts-of-fields, texts_of}
use Rattle.deb_install.proofs.sure_groups.sure_texts.Goals as goal

pub returns : goal.returns
returns c = λ values has.
    let environment = environment_of c.args.needing.now.environment.now in
    let texts = names_of c.args.texts.now.relations in
    let first = first-text c.args.strength texts values has.relations in
    let second = second-text c.args.strength texts values has.relations in
    texts-of-fields environment c.args.strength (λ field. groups_of (value_under field values))
    (names_of c.append_sure.new.out.items) (names_of c.append_sure-2.new.out.items) (names_of c.append_recommended.new.out.items)
    (c.in_ok-append_sure.ensures (groups_of (value_under (codes "Pre-Depends") values)) first.regular (c.relation.ensures ∙ first.is)
    ∙ ap (λ l. names_of l ++ texts_of environment (groups_of (value_under (codes "Pre-Depends") values))) c.new-found.ensures.items)
    (c.in_ok-append_sure-2.ensures (groups_of (value_under (codes "Depends") values)) second.regular (c.relation-2.ensures ∙ second.is))
    c.in_ok-append_recommended.ensures.none
    (λ e.
    let third = third-text texts values (subst (λ s. HaveRelations (fields_with s) texts values) e has.relations) in
    c.in_ok-append_recommended.ensures.some e (groups_of (value_under (codes "Recommends") values)) third.regular third.is)
