-- The map has the numbers of the packages so far.
use Rattle.std.proofs.Common.{◌≡◌, ℕ, List, map, take}
use Rattle.deb_index.specs.Maps.{EndInLast, numbers_under}
use Rattle.deb_index.specs.Named.{has_name, numbers_of}
use Rattle.deb_index.specs.Stores.{listed_by}
use Rattle.deb_index.proofs.names.Names.own.Given as goal

abbrev pub invariant-loop-index : goal.invariant-loop-index
invariant-loop-index l = record {
  lists : EndInLast l.names;
  numbers : (name : List ℕ) → numbers_under l.names name ≡ numbers_of (has_name name) (map (listed_by l.store.bytes.items l.store.entries.items) (take l.index l.store.records.items));
}
