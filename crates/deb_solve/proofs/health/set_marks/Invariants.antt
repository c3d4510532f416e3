use Rattle.std.proofs.Common.{length, take}
use Rattle.deb_solve.specs.Marks.{AreMarks}
use Rattle.deb_solve.proofs.health.set_marks.Given as goal

abbrev pub invariant-loop-number : goal.invariant-loop-number
invariant-loop-number l =
    AreMarks l.marks.items (take l.number-index l.numbers) (length l.initial.marks.items)
