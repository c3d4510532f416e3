use Rattle.std.proofs.Common.{◌≡◌}
use Rattle.deb_solve.proofs.witnesses.first_set.Given as goal

abbrev pub invariant-loop-number : goal.invariant-loop-number
invariant-loop-number l = l.known.universe.now ≡ l.initial.known.universe.now
