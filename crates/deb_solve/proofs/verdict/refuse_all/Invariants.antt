use Rattle.std.proofs.Common.{◌≡◌, length}
use Rattle.deb_solve.specs.Verdicts.{AreTrue}
use Rattle.deb_solve.proofs.verdict.refuse_all.Given as goal

abbrev pub invariant-loop-number : goal.invariant-loop-number
invariant-loop-number l =
    AreTrue l.known.universe.now l.verdicts.items × (length l.verdicts.items ≡ length l.initial.verdicts.items)
