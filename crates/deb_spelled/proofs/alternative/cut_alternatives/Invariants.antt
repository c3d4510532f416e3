use Rattle.deb_spelled.proofs.SoFar.{IsSoFar}
use Rattle.deb_spelled.proofs.alternative.cut_alternatives.Given as goal

abbrev pub invariant-loop : goal.invariant-loop
invariant-loop l = IsSoFar l.text l.alternatives.items l.group l.rest l.counter
