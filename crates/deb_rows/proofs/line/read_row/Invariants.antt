use Rattle.std.proofs.Common.{◌≡◌, drop}
use Rattle.deb_rows.specs.Reads.{read_first, read_row}
use Rattle.deb_rows.proofs.line.read_row.Given as goal

abbrev pub invariant-loop-i : goal.invariant-loop-i
invariant-loop-i l = read_first (drop l.i l.kinds) l.text l.start ≡ read_row l.fn.form l.text l.start
