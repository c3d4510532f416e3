use Rattle.std.proofs.Common.{take}
use Rattle.deb_solve.specs.Parts.{Covers}
use Rattle.deb_solve.proofs.parts.add_candidates.Given as goal

abbrev pub invariant-loop-candidate : goal.invariant-loop-candidate
invariant-loop-candidate l =
    Covers l.universe l.locals.ids.items (take l.candidate-index l.candidates) l.row.items
