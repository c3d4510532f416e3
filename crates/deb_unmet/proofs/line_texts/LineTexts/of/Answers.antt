use Rattle.std.proofs.Common.{refl, ap, ◌∙◌}
use Rattle.deb_control.specs.FieldTexts.{word_at}
use Rattle.deb_unmet.specs.Asked.{name_field}
use Rattle.deb_unmet.proofs.ParagraphLines.{relations-have}
use Rattle.deb_unmet.proofs.line_texts.LineTexts.of.Goals as goal

pub returns-clause-texts : goal.returns-clause-texts
returns-clause-texts c = λ values has passes. record {
  name = c.word.ensures ∙ ap (word_at c.args.texts.now) c.name_row.ensures ∙ has.word (name_field c.args.request.asked);
  architecture = c.architecture_of.ensures values has;
  built_for = c.built_for.ensures values passes;
  relations = relations-have c.args.texts.now values has c.args.request.asked c.rows-rows.result _ c.rows-rows.ensures (rw (c.relation.ensures, c.relation-2.ensures, c.relation-3.ensures) refl);
}
