-- The entries so far were appended.
use Rattle.std.proofs.Common.{◌≡◌, ◌++◌, map, take}
use Rattle.deb_index.specs.Renumbering.{with_number}
use Rattle.deb_index.proofs.without.append_numbered.Given as goal

abbrev pub invariant-loop-entry : goal.invariant-loop-entry
invariant-loop-entry l = l.entries.items ≡ l.initial.entries.items ++ map (with_number l.number) (take l.entry-index l.own)
