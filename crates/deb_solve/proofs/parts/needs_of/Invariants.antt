use Rattle.std.proofs.Common.{take}
use Rattle.std.specs.List.{All}
use Rattle.deb_solve.specs.Parts.{IsNeed, Pairwise}
use Rattle.deb_solve.proofs.parts.needs_of.Given as goal

abbrev pub invariant-loop-number : goal.invariant-loop-number
invariant-loop-number l =
    Pairwise (λ id. All (IsNeed l.facts id)) (take l.number l.locals.ids.items) l.needs
