-- The numbers of those offers so far whose packages meet the qualifier.
use Rattle.std.proofs.Common.{◌≡◌, ℕ, ◌&&◌, ◌||◌, eqb, option_copied, take}
use Rattle.std.specs.List.{list_any}
use Rattle.deb_relation.specs.Environments.{environment_of}
use Rattle.deb_index.specs.Crowds.{is_of}
use Rattle.deb_index.specs.Indexes.{number_in, packages_of}
use Rattle.deb_index.specs.Named.{among}
use Rattle.deb_index.proofs.candidates.append_offering.Given as goal

abbrev pub invariant-loop-offer : goal.invariant-loop-offer
invariant-loop-offer l =
    (k : ℕ) → among k l.numbers.items ≡ (among k l.initial.numbers.items || list_any (λ o. eqb k (number_in l.index o) && is_of (environment_of l.environment) (option_copied l.qualifier) (packages_of l.index) (number_in l.index o)) (take l.offer-index l.offers))
