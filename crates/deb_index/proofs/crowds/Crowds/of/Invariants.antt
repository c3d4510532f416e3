-- The versions under the names so far are kept.
use Rattle.std.proofs.Common.{◌≡◌, ℕ, List, Some}
use Rattle.deb_index.specs.Crowds.{AreOffers}
use Rattle.deb_index.specs.Maps.{list_under}
use Rattle.deb_index.proofs.crowds.Crowds.of.Given as goal

abbrev pub invariant-loop-name : goal.invariant-loop-name
invariant-loop-name l = (name offers : List ℕ) → list_under l.offers name ≡ Some offers → AreOffers l.store name offers
