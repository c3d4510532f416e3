-- Lines in the order of the versions that they spell: deb-version(7). That lines of equal versions
-- keep their order is this project's own.
use Rattle.std.specs.Prelude.{◌≡◌, Bool, true, false, List, codes, refl}
use Rattle.std.specs.List.Sorted.{IsPermutation, IsSortedBy, IsStableBy}
use Rattle.std.specs.Ordering.{is_lt}
use Rattle.deb_base.specs.Bodies.{Line}
use Rattle.deb_version.specs.Order.{version_cmp}
use Rattle.deb_version.specs.Places.{version_in}

-- the version of one line is earlier than that of another
abbrev pub is_earlier : Line → Line → Bool
is_earlier a b = is_lt (version_cmp (version_in a) (version_in b))

-- one line comes before another: its version is earlier, or in reverse order later
abbrev pub stands_before : Bool → Line → Line → Bool
stands_before false a b = is_earlier a b
stands_before true a b = is_earlier b a

-- the same lines, none lost and none twice, in order; those of equal versions in the order that
-- they had
pub record Sorts (reverse : Bool) (lines sorted : List Line) : Type 0 where
  pub same_lines : IsPermutation lines sorted
  pub in_order : IsSortedBy (stands_before reverse) sorted
  pub stable : IsStableBy (stands_before reverse) lines sorted

earlier : (stands_before false (codes "1.9") (codes "1.10") ≡ true)
    × (stands_before false (codes "1.0~rc1") (codes "1.0") ≡ true)
    × (stands_before false (codes "9") (codes "1:0") ≡ true)
earlier = (refl, refl, refl)

later : (stands_before true (codes "1.10") (codes "1.9") ≡ true)
    × (stands_before true (codes "1.9") (codes "1.10") ≡ false)
later = (refl, refl)

-- neither of two equal versions comes before the other
equal : (stands_before false (codes "1.0") (codes "0:1.00-0") ≡ false)
    × (stands_before false (codes "0:1.00-0") (codes "1.0") ≡ false)
equal = (refl, refl)

-- of sorted lines none comes before the one before it, in the order that is asked
in_reverse : (lines sorted : List Line) → Sorts true lines sorted
    → IsSortedBy (λ a b. is_earlier b a) sorted
in_reverse lines sorted sorts = sorts.in_order

not_in_reverse : (lines sorted : List Line) → Sorts false lines sorted
    → IsSortedBy is_earlier sorted
not_in_reverse lines sorted sorts = sorts.in_order

-- lines of equal versions keep their order in either
stable_in_reverse : (lines sorted : List Line) → Sorts true lines sorted
    → IsStableBy (λ a b. is_earlier b a) lines sorted
stable_in_reverse lines sorted sorts = sorts.stable
