-- Those of the packages so far that have none of the names were copied.
use Rattle.std.proofs.Common.{take}
use Rattle.deb_relation.specs.Views.{names_of}
use Rattle.deb_index.specs.Renumbering.{Copies, left_in}
use Rattle.deb_index.proofs.store.Store.append_left.Given as goal

abbrev pub invariant-loop-record : goal.invariant-loop-record
invariant-loop-record l =
    Copies l.self.bytes.items l.self.entries.items (left_in (names_of l.names) l.self.bytes.items (take l.record-index l.self.records.items)) l.entries.items l.records.items
