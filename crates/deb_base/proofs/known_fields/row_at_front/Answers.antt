use Rattle.std.proofs.Common.{[], ◌<◌, length, get_or, arith, refl, sym, ap, ◌∙◌}
use Rattle.deb_base.proofs.FieldLookups.{length_of_table}
use Rattle.deb_base.proofs.BegunRows.{row_begins, row_starts, row_starts_not}
use Rattle.deb_base.proofs.known_fields.row_at_front.Goals.{else-len-line-via-then-len-line+else-starts_with, else-len-line-via-else-len-line}
use Rattle.deb_base.specs.Kinds.{known_fields}
use Rattle.deb_base.specs.KnownFields.{begins_with_row}
use Rattle.deb_base.specs.declared.kind.Kind.TheVariants.{Text}
use Rattle.deb_base.proofs.known_fields.row_at_front.Goals as goal

pub returns-then-starts_with-clause-some : goal.returns-then-starts_with-clause-some
returns-then-starts_with-clause-some c =
    let table = c.fields-2.result.now in
    let is = c.fields-2.ensures in
    let row = c.from-index.result in
    let line = c.args.line.now in
    let within : row < length table = omega (arith, c.if-index-fields.false, length_of_table table is, length_of_table c.fields.result.now c.fields.ensures) in
    row_begins table is row _ within line _ c.from-index.ensures
    (sym (row_starts table is row _ within line _ c.if-len-line.true refl) ∙ sym c.starts_with.ensures.value ∙ c.if-starts_with.true)

pub returns-then-starts_with-clause-some_iff_begins :
    goal.returns-then-starts_with-clause-some_iff_begins
returns-then-starts_with-clause-some_iff_begins c small =
    let table = c.fields-2.result.now in
    let is = c.fields-2.ensures in
    let row = c.from-index.result in
    let line = c.args.line.now in
    let within : row < length table = omega (arith, c.if-index-fields.false, length_of_table table is, length_of_table c.fields.result.now c.fields.ensures) in
    sym (ap (λ n. begins_with_row line (get_or known_fields n ([], Text))) (sym c.from-index.ensures)
    ∙ sym (row_starts table is row _ within line _ c.if-len-line.true refl) ∙ sym c.starts_with.ensures.value ∙ c.if-starts_with.true)

pub returns-clause-some_iff_begins : goal.returns-clause-some_iff_begins
returns-clause-some_iff_begins c small =
    let table = c.fields-2.result.now in
    let is = c.fields-2.ensures in
    let row = c.from-index.result in
    let line = c.args.line.now in
    let within : row < length table = omega (arith, c.if-index-fields.false, length_of_table table is, length_of_table c.fields.result.now c.fields.ensures) in
    sym (ap (λ n. begins_with_row line (get_or known_fields n ([], Text))) (sym c.from-index.ensures)
    ∙ elim c.else-len-line.branch [
      | else-len-line-via-then-len-line+else-starts_with w ↦
          sym (row_starts table is row _ within line _ w.if-len-line.true refl) ∙ sym w.starts_with.ensures.value ∙ w.if-starts_with.false
      | else-len-line-via-else-len-line w ↦ row_starts_not table is row _ within line w.if-len-line.false
    ])
