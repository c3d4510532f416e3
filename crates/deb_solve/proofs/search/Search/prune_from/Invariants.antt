use Rattle.std.proofs.Common.{◌≡◌}
use Rattle.deb_solve.proofs.search.Search.prune_from.Given as goal

abbrev pub invariant-loop-next : goal.invariant-loop-next
invariant-loop-next l = l.known.universe.now ≡ l.fn.known.universe.now

abbrev pub invariant-loop-package : goal.invariant-loop-package
invariant-loop-package l = l.known.universe.now ≡ l.fn.known.universe.now
