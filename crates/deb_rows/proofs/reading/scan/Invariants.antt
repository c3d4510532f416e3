-- The rows before the offset are read.
use Rattle.std.proofs.Common.{length, ◌-◌}
use Rattle.deb_rows.proofs.Scanned.{Scanned}
use Rattle.deb_rows.proofs.reading.scan.Given as goal

abbrev pub invariant-loop-at : goal.invariant-loop-at
invariant-loop-at l = Scanned l.fn.form l.text l.fn.rows l.at l.rows l.count

abbrev pub decreases-loop-at : goal.decreases-loop-at
decreases-loop-at l = length l.text - l.at
