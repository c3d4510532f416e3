-- What is left to count are the files from this one on, in the packages that are left.
use Rattle.std.proofs.Common.{◌≡◌, ◌++◌, drop, map}
use Rattle.deb_relation.specs.Views.{names_of}
use Rattle.deb_index.specs.Stores.{listed_by, listed_in}
use Rattle.deb_index.specs.Without.{counts_left}
use Rattle.deb_index.proofs.store.Store.counts_left.Given as goal

abbrev pub invariant-loop-count : goal.invariant-loop-count
invariant-loop-count l =
    l.counts.items ++ counts_left (names_of l.names) (drop l.count-index l.self.files.items) (map (listed_by l.self.bytes.items l.self.entries.items) l.rest)
    ≡ counts_left (names_of l.names) l.self.files.items (listed_in l.self)
