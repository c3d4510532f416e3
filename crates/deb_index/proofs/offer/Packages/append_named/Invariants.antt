-- The entries so far that have a version were appended.
use Rattle.std.proofs.Common.{take, false}
use Rattle.std.specs.List.{list_any}
use Rattle.std.specs.Option.{option_map_or}
use Rattle.deb_index.specs.Crowds.{AppendsOffers}
use Rattle.deb_index.specs.Entries.{entry_version, version_kept}
use Rattle.deb_index.proofs.offer.Packages.append_named.Given as goal

abbrev pub invariant-loop-index : goal.invariant-loop-index
invariant-loop-index l =
    AppendsOffers l.self.store.now l.initial.offers.items l.offers.items (λ test. list_any (λ e. option_map_or (test l.number) (version_kept (entry_version l.self.store.now.bytes.items e)) false) (take l.index l.entries))
