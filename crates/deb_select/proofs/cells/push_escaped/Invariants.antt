use Rattle.std.proofs.Common.{◌≡◌, ◌++◌, length}
use Rattle.std.specs.List.{flat_map}
use Rattle.deb_select.specs.Tables.{cell_byte}
use Rattle.deb_select.proofs.cells.push_escaped.Given as goal

abbrev pub invariant-loop-rest : goal.invariant-loop-rest
invariant-loop-rest l = l.initial.out.items ++ flat_map cell_byte l.text ≡ l.out.items ++ flat_map cell_byte l.rest

abbrev pub decreases-loop-rest : goal.decreases-loop-rest
decreases-loop-rest l = length l.rest
