use Rattle.std.proofs.Common.{drop}
use Rattle.deb_solve.specs.Refuting.{Leads}
use Rattle.deb_solve.proofs.refuter.Refuter.resolve.Given as goal

abbrev pub invariant-loop-candidate : goal.invariant-loop-candidate
invariant-loop-candidate l = Leads l.self.universe.now l.draft.list.items (drop l.candidate-index l.candidates)
