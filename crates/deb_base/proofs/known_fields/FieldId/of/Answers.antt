use Rattle.std.proofs.Common.{[], get_or, arith, sym, ◌∙◌}
use Rattle.std.specs.Str.{bytes_eq}
use Rattle.deb_base.specs.Names.{folded}
use Rattle.deb_base.specs.Kinds.{known_fields}
use Rattle.deb_base.specs.declared.kind.Kind.TheVariants.{Text}
use Rattle.deb_base.proofs.FieldLookups.{fails_more, known_row-found, known_row-none, length_of_table, other_row}
use Rattle.deb_base.proofs.known_fields.FieldId.of.Goals as goal

pub loop-row-preserved : goal.loop-row-preserved
loop-row-preserved c =
    let table = c.fields-in-loop-row.result.now in
    let is = c.fields-in-loop-row.ensures in
    let count = length_of_table table is in
    let count_before = length_of_table c.fields.result.now c.fields.ensures in
    let row = c.from-in-loop-row.result in
    let other = other_row table is row _ c.args.name.now ([], Text) (omega (arith, c.loop-row-test.true, c.from.ensures, c.from-in-loop-row.ensures, count, count_before)) c.if-not-same_name.ensures in
    record {
      within = omega (arith, c.loop-row-test.true, c.from.ensures, count_before);
      before = fails_more (λ k. bytes_eq (folded (get_or known_fields k ([], Text)).0) (folded c.args.name.now)) c.loop-row.row c.loop-row.invariant.before (rw c.from-in-loop-row.ensures at other);
    }

pub returns-else-not-same_name : goal.returns-else-not-same_name
returns-else-not-same_name c =
    let table = c.fields-in-loop-row.result.now in
    let is = c.fields-in-loop-row.ensures in
    let count = length_of_table table is in
    let count_before = length_of_table c.fields.result.now c.fields.ensures in
    let row = c.from-in-loop-row.result in
    sym c.from-in-loop-row.ensures
    ∙ known_row-found table is row _ c.args.name.now ([], Text) (omega (arith, c.loop-row-test.true, c.from.ensures, c.from-in-loop-row.ensures, count, count_before)) (rw (sym c.from-in-loop-row.ensures) at c.loop-row.invariant.before) c.if-not-same_name.ensures

pub returns-after-loop-row : goal.returns-after-loop-row
returns-after-loop-row c =
    known_row-none c.args.name.now c.loop-row.row ([], Text) (omega (arith, c.loop-row-test.false, c.from.ensures, length_of_table c.fields.result.now c.fields.ensures, c.loop-row.invariant.within)) c.loop-row.invariant.before
