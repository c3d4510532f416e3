use Rattle.std.proofs.Common.{arith, ap, ◌∙◌}
use Rattle.deb_base.specs.Kinds.{kind_at}
use Rattle.deb_base.proofs.FieldLookups.{kind_at-row, kind_at-no_row, length_of_table}
use Rattle.deb_base.proofs.known_fields.FieldId.usual_kind.Goals as goal

pub returns-then-row-fields : goal.returns-then-row-fields
returns-then-row-fields c =
    let table = c.fields-then-row-fields.result.now in
    kind_at-row table c.fields-then-row-fields.ensures c.from-row.result _
    (omega (arith, c.if-row-fields.true, length_of_table table c.fields-then-row-fields.ensures, length_of_table c.fields.result.now c.fields.ensures))
    ∙ ap kind_at c.from-row.ensures

pub returns-else-row-fields : goal.returns-else-row-fields
returns-else-row-fields c = kind_at-no_row c.fields.result.now c.fields.ensures c.from-row.result c.if-row-fields.false ∙ ap kind_at c.from-row.ensures
