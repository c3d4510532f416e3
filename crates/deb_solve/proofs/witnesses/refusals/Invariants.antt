use Rattle.deb_solve.specs.Verdicts.{AreVerdicts, NoneIsInstallable}
use Rattle.deb_solve.proofs.witnesses.refusals.Given as goal

abbrev pub invariant-loop-number : goal.invariant-loop-number
invariant-loop-number l =
    AreVerdicts l.known.universe.now l.verdicts.items × NoneIsInstallable l.verdicts.items
