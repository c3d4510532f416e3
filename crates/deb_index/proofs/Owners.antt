-- Which package an offer is of, and which version it is.
use Rattle.std.proofs.Common.{◌≡◌, ℕ, ◌+◌, ◌-◌, ◌<◌, ◌≤◌, nat_lt, ◌==◌, true, false, if◌then◌else◌, List, [], ◌∷◌, length, option_map, slice_get, None, Some, refl, sym, ap, arith}
use Rattle.std.specs.Option.{option_and_then, option_map_or}
use Rattle.std.proofs.lemmas.Bool.{eqb-true, false≢true}
use Rattle.deb_version.specs.Places.{version_in}
use Rattle.deb_index.specs.Entries.{entry_version, version_kept}
use Rattle.deb_index.specs.Offers.{number_of, offered}
use Rattle.deb_index.specs.Stores.{version_by}
use Rattle.deb_index.specs.declared.store.Store.{Store}

pub version_kept-some : (text : List ℕ) → (length text == 0) ≡ false → version_kept text ≡ Some (version_in text)
version_kept-some [] some = absurd (false≢true (sym some))
version_kept-some (b ∷ bs) some = refl

pub version_kept-none : (text : List ℕ) → (length text == 0) ≡ true → version_kept text ≡ None
version_kept-none [] none = refl
version_kept-none (b ∷ bs) none = absurd (omega (arith, eqb-true (length (b ∷ bs)) 0 none))

below : (m n : ℕ) → m < n → nat_lt m n ≡ true
below m n less = grind (arith, less)

reached : (m n : ℕ) → n ≤ m → nat_lt m n ≡ false
reached m n low = grind (arith, low)

module _ (store : Store) (o : ℕ) where
  -- the own version of a package
  pub own-version : o < length store.records.items → offered store o ≡ option_map (λ r. version_in (version_by store.bytes.items r)) (slice_get store.records.items o)
  own-version within =
      ap (λ b. if b then option_map (λ r. version_in (version_by store.bytes.items r)) (slice_get store.records.items o) else option_and_then (λ e. version_kept (entry_version store.bytes.items e)) (slice_get store.entries.items (o - length store.records.items))) (below o (length store.records.items) within)

  pub own-number : o < length store.records.items → number_of store o ≡ o + 1
  own-number within = ap (λ b. if b then o + 1 else option_map_or (λ e. e.number) (slice_get store.entries.items (o - length store.records.items)) 0) (below o (length store.records.items) within)

  -- the version of an entry
  pub entry-version : length store.records.items ≤ o → offered store o ≡ option_and_then (λ e. version_kept (entry_version store.bytes.items e)) (slice_get store.entries.items (o - length store.records.items))
  entry-version beyond =
      ap (λ b. if b then option_map (λ r. version_in (version_by store.bytes.items r)) (slice_get store.records.items o) else option_and_then (λ e. version_kept (entry_version store.bytes.items e)) (slice_get store.entries.items (o - length store.records.items))) (reached o (length store.records.items) beyond)

  pub entry-number : length store.records.items ≤ o → number_of store o ≡ option_map_or (λ e. e.number) (slice_get store.entries.items (o - length store.records.items)) 0
  entry-number beyond = ap (λ b. if b then o + 1 else option_map_or (λ e. e.number) (slice_get store.entries.items (o - length store.records.items)) 0) (reached o (length store.records.items) beyond)
