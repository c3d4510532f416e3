use Rattle.std.proofs.Common.{take}
use Rattle.deb_solve.specs.Marks.{AreMarks}
use Rattle.deb_install.proofs.witnesses.marks_of.Given as goal

abbrev pub invariant-loop-number : goal.invariant-loop-number
invariant-loop-number l = AreMarks l.marks.items (take l.number-index l.numbers) l.count
