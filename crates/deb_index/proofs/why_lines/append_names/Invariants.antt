-- The lines of the names so far.
use Rattle.std.proofs.Common.{◌≡◌, ◌++◌, take}
use Rattle.std.specs.List.{flat_map}
use Rattle.deb_relation.specs.Views.{names_of}
use Rattle.deb_index.specs.Why.{system_line}
use Rattle.deb_index.proofs.why_lines.append_names.Given as goal

abbrev pub invariant-loop-name : goal.invariant-loop-name
invariant-loop-name l = l.out.items ≡ l.initial.out.items ++ flat_map (system_line l.text l.target) (names_of (take l.name-index l.names))
