use Rattle.std.proofs.Common.{◌≡◌}
use Rattle.deb_solve.proofs.search.Search.run.Given as goal

abbrev pub invariant-loop : goal.invariant-loop
invariant-loop l = l.known.universe.now ≡ l.fn.known.universe.now
