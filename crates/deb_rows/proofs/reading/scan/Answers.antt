-- One row more, or none.
use Rattle.std.proofs.Common.{arith}
use Rattle.deb_rows.proofs.RowsFound.{row_found}
use Rattle.deb_rows.proofs.Scanned.{goes_on, has_no_rows, scanned_more}
use Rattle.deb_rows.proofs.reading.scan.Goals as goal

pub returns-in_default-clause-none : goal.returns-in_default-clause-none
returns-in_default-clause-none c =
    has_no_rows c.args.form c.args.text.now c.args.rows.now c.loop-at.at c.loop-at.rows c.loop-at.count c.loop-at.invariant c.loop-at-test.true c.in_default.ensures

pub loop-at-smaller : goal.loop-at-smaller
loop-at-smaller c =
    let next = row_found c.args.form c.args.text.now c.loop-at.at c.in-Some.found c.in-Some.ensures in
    let ahead = goes_on c.args.form c.args.text.now c.args.rows.now c.loop-at.at c.loop-at.rows c.loop-at.count c.loop-at.invariant c.in-Some.found next in
    omega (arith, ahead, c.loop-at-test.true)

pub loop-at-preserved : goal.loop-at-preserved
loop-at-preserved c =
    rw c.put.ensures
    (scanned_more c.args.form c.args.text.now c.args.rows.now c.loop-at.at c.loop-at.rows c.loop-at.count c.loop-at.invariant c.in-Some.found c.loop-at-test.true
    (row_found c.args.form c.args.text.now c.loop-at.at c.in-Some.found c.in-Some.ensures))
