use Rattle.std.proofs.Common.{◌<◌, length, sym, ◌∙◌, arith}
use Rattle.std.proofs.lemmas.Bool.{false_from_ne_true, lt-ltb, ltb-true}
use Rattle.deb_base.proofs.FieldLookups.{canonical_of_name, length_of_table}
use Rattle.deb_base.proofs.known_fields.FieldId.canonical_name.Goals as goal

pub returns-then-row-fields-clause-spelled : goal.returns-then-row-fields-clause-spelled
returns-then-row-fields-clause-spelled c = λ name is.
    let table = c.fields-then-row-fields.result.now in
    let table_is = c.fields-then-row-fields.ensures in
    let within : c.from-row.result < length table = omega (arith, c.if-row-fields.true, length_of_table table table_is, length_of_table c.fields.result.now c.fields.ensures) in
    canonical_of_name table table_is c.from-row.result _ within name (is ∙ sym c.from-row.ensures)

pub returns-then-row-fields-clause-some_iff_known :
    goal.returns-then-row-fields-clause-some_iff_known
returns-then-row-fields-clause-some_iff_known c =
    sym (lt-ltb _ _ (omega (arith, c.if-row-fields.true, c.from-row.ensures, length_of_table c.fields.result.now c.fields.ensures)))

pub returns-else-row-fields-clause-some_iff_known :
    goal.returns-else-row-fields-clause-some_iff_known
returns-else-row-fields-clause-some_iff_known c =
    sym (false_from_ne_true _ (λ is. absurd (omega (arith, ltb-true _ _ is, c.if-row-fields.false, c.from-row.ensures, length_of_table c.fields.result.now c.fields.ensures))))
