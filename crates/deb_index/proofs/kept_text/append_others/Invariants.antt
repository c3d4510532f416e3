-- The entries so far.
use Rattle.std.proofs.Common.{◌≡◌, ◌++◌, take}
use Rattle.std.specs.List.{flat_map}
use Rattle.deb_index.specs.KeptEntries.{later_entry}
use Rattle.deb_index.proofs.kept_text.append_others.Given as goal

abbrev pub invariant-loop-entry : goal.invariant-loop-entry
invariant-loop-entry l = l.out.items ≡ l.initial.out.items ++ flat_map (later_entry l.text) (take l.entry-index l.entries)
