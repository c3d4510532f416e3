use Rattle.std.proofs.Common.{◌≡◌, length}
use Rattle.deb_solve.specs.Verdicts.{AreTrue}
use Rattle.deb_solve.proofs.verdict.accept_all.Given as goal

abbrev pub invariant-loop-member : goal.invariant-loop-member
invariant-loop-member l =
    AreTrue l.universe l.verdicts.items × (length l.verdicts.items ≡ length l.initial.verdicts.items)
