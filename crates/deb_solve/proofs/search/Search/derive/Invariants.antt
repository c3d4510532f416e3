use Rattle.deb_solve.specs.Refuting.{IsNogood}
use Rattle.deb_solve.proofs.search.Search.derive.Given as goal

abbrev pub invariant-loop : goal.invariant-loop
invariant-loop l = IsNogood l.known.universe.now l.list.items
