use Rattle.std.proofs.Common.{◌≡◌}
use Rattle.deb_solve.specs.Verdicts.{AreVerdicts}
use Rattle.deb_solve.proofs.verdict.solve.Given as goal

abbrev pub invariant-loop-number : goal.invariant-loop-number
invariant-loop-number l =
    AreVerdicts l.universe l.verdicts.items × (l.known.universe.now ≡ l.universe)
