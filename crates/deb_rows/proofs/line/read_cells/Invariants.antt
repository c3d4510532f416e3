-- What is read of the pieces that are left, with the cells so far.
use Rattle.std.proofs.Common.{◌≡◌, ◌≤◌, drop, length, map}
use Rattle.deb_rows.specs.Kinds.{piece_in, pieces_of}
use Rattle.deb_rows.specs.Reads.{read_cells}
use Rattle.deb_rows.specs.Rows.{no_cells}
use Rattle.deb_rows.proofs.line.read_cells.Given as goal

abbrev pub invariant-loop-i : goal.invariant-loop-i
invariant-loop-i l = record {
  within : l.at ≤ length l.text;
  ten : length l.cells ≡ 10;
  left : read_cells (drop l.i (map piece_in l.pieces)) l.text l.at l.i l.cells ≡ read_cells (pieces_of l.kind) l.text l.start 0 no_cells;
}
