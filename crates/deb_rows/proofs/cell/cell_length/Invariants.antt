use Rattle.std.proofs.Common.{◌≡◌, ◌+◌, drop, length}
use Rattle.deb_rows.specs.Cells.{cell_of}
use Rattle.deb_rows.proofs.cell.cell_length.Given as goal

abbrev pub invariant-loop-i : goal.invariant-loop-i
invariant-loop-i l = length (cell_of l.class l.text) ≡ l.i + length (cell_of l.class (drop l.i l.text))
