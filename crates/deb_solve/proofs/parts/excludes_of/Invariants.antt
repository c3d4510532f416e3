use Rattle.std.proofs.Common.{take}
use Rattle.std.specs.List.{All}
use Rattle.deb_solve.specs.Parts.{IsExclusion, Pairwise}
use Rattle.deb_solve.proofs.parts.excludes_of.Given as goal

abbrev pub invariant-loop-number : goal.invariant-loop-number
invariant-loop-number l =
    Pairwise (λ id. All (IsExclusion l.universe l.facts l.locals.ids.items id))
    (take l.number l.locals.ids.items) l.excludes
