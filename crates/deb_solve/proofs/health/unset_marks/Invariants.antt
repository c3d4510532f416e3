use Rattle.std.proofs.Common.{drop}
use Rattle.deb_solve.proofs.Marked.{AreWithin}
use Rattle.deb_solve.proofs.health.unset_marks.Given as goal

abbrev pub invariant-loop-number : goal.invariant-loop-number
invariant-loop-number l = AreWithin l.marks.items (drop l.number-index l.numbers)
