-- What the packages so far provide was appended.
use Rattle.std.proofs.Common.{take}
use Rattle.std.specs.List.{list_any}
use Rattle.deb_index.specs.Crowds.{AppendsOffers, provides_passing}
use Rattle.deb_index.specs.Named.{passes_at}
use Rattle.deb_index.specs.Stores.{listed_in}
use Rattle.deb_index.proofs.offer.Packages.append_provided.Given as goal

abbrev pub invariant-loop-number : goal.invariant-loop-number
invariant-loop-number l =
    AppendsOffers l.self.store.now l.initial.offers.items l.offers.items (λ test. list_any (λ k. passes_at (provides_passing l.name (test k)) (listed_in l.self.store.now) k) (take l.number-index l.numbers))
