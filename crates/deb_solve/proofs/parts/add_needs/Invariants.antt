use Rattle.std.specs.List.{All}
use Rattle.deb_solve.specs.Parts.{IsNeed}
use Rattle.deb_solve.proofs.parts.add_needs.Given as goal

abbrev pub invariant-loop-fact : goal.invariant-loop-fact
invariant-loop-fact l = All (IsNeed l.facts l.id) l.row.items
