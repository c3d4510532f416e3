use Rattle.std.specs.List.{All}
use Rattle.deb_solve.specs.Parts.{IsExclusion}
use Rattle.deb_solve.proofs.parts.add_exclusions.Given as goal

abbrev pub invariant-loop-fact : goal.invariant-loop-fact
invariant-loop-fact l =
    All (IsExclusion l.universe l.facts l.locals.ids.items l.id) l.row.items
