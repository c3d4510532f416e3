use Rattle.std.proofs.Common.{◌≡◌}
use Rattle.deb_solve.proofs.search.Search.prune_all.Given as goal

abbrev pub invariant-loop-package : goal.invariant-loop-package
invariant-loop-package l = l.known.universe.now ≡ l.fn.known.universe.now
