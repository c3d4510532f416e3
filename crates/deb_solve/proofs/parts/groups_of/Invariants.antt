use Rattle.std.proofs.Common.{take}
use Rattle.deb_solve.specs.Parts.{Covers, Pairwise, candidates}
use Rattle.deb_solve.proofs.parts.groups_of.Given as goal

abbrev pub invariant-loop-fact : goal.invariant-loop-fact
invariant-loop-fact l =
    Pairwise (λ fact. Covers l.universe l.locals.ids.items (candidates l.universe fact))
    (take l.fact-index l.facts) l.groups
