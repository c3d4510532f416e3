-- Versions in which the packages of a store have or provide names, their order, and how they stand
-- to a bound. Debian Policy 7.1 and 7.5; deb-version(7).
use Rattle.std.specs.Prelude.{◌≡◌, ℕ, ◌+◌, ◌-◌, nat_lt, cond, if◌then◌else◌, [], ◌∷◌, length, map, Option, None, Some, codes, refl}
use Rattle.std.specs.List.{slice_get}
use Rattle.std.specs.Option.{option_and_then, option_cmp, option_map, option_map_or}
use Rattle.std.specs.declared.cmp.Ordering.{Ordering}
use Rattle.std.specs.declared.cmp.Ordering.TheVariants.{Less, Equal as Same, Greater}
use Rattle.deb_version.specs.Order.{version_cmp}
use Rattle.deb_version.specs.Parts.{Meaning as Version}
use Rattle.deb_version.specs.Places.{version_in}
use Rattle.deb_relation.specs.Applying.{holds}
use Rattle.deb_relation.specs.declared.operator.Op.{Op}
use Rattle.deb_relation.specs.declared.operator.Op.TheVariants.{Earlier, EarlierEqual, Equal, LaterEqual, Later}
use Rattle.deb_index.specs.Entries.{entry_version, version_kept}
use Rattle.deb_index.specs.Stores.{version_by}
use Rattle.deb_index.specs.declared.store.Store.{Store}

-- The version that an offer is. An offer is a number: first, from 0 on, are those of the packages'
-- own versions, then those of the versions of the entries.
abbrev pub offered : Store → ℕ → Option Version
offered store o =
    if nat_lt o (length store.records.items)
    then option_map (λ r. version_in (version_by store.bytes.items r))
    (slice_get store.records.items o)
    else option_and_then (λ e. version_kept (entry_version store.bytes.items e))
    (slice_get store.entries.items (o - length store.records.items))

-- the number of its package, counted from 1; 0 if there is no such entry
abbrev pub number_of : Store → ℕ → ℕ
number_of store o =
    if nat_lt o (length store.records.items) then o + 1
    else option_map_or (λ e. e.number)
    (slice_get store.entries.items (o - length store.records.items)) 0

-- by version; what is none comes first
abbrev pub offer_cmp : Store → ℕ → ℕ → Ordering
offer_cmp store a b = option_cmp version_cmp (offered store a) (offered store b)

-- where a version stands that doesn't meet a bound: before those that do, or behind them
abbrev pub side_without : Op → Ordering → Ordering
side_without Earlier order = Greater
side_without EarlierEqual order = Greater
side_without Equal order = order
side_without LaterEqual order = Less
side_without Later order = Less

-- Where a version stands that compares so with that of a bound: before those that meet the bound
-- (`Less`), among them (`Equal`) or behind them (`Greater`).
abbrev pub side : Op → Ordering → Ordering
side operator order = cond (holds operator order) Same (side_without operator order)

abbrev pub standing_of : Op × Version → Option Version → Ordering
standing_of bound None = Less
standing_of bound (Some version) = side bound.0 (version_cmp version bound.1)

-- the same for an offer
abbrev pub standing : Store → Op × Version → ℕ → Ordering
standing store bound o = standing_of bound (offered store o)

-- each operator, where the version is earlier, equal and later
worked-side : map (λ operator. map (side operator) (Less ∷ Same ∷ Greater ∷ []))
    (Earlier ∷ EarlierEqual ∷ Equal ∷ LaterEqual ∷ Later ∷ [])
    ≡ (Same ∷ Greater ∷ Greater ∷ [])
    ∷ (Same ∷ Same ∷ Greater ∷ [])
    ∷ (Less ∷ Same ∷ Greater ∷ [])
    ∷ (Less ∷ Same ∷ Same ∷ [])
    ∷ (Less ∷ Less ∷ Same ∷ [])
    ∷ []
worked-side = refl

worked-standing_of : map (standing_of (LaterEqual, version_in (codes "2")))
    (None ∷ Some (version_in (codes "1")) ∷ Some (version_in (codes "2")) ∷ [])
    ≡ Less ∷ Less ∷ Same ∷ []
worked-standing_of = refl
