-- The order of paragraphs of one name and architecture: the latest version first. deb-version(7);
-- Debian Policy 5.6.12.
use Rattle.std.specs.Prelude.{◌≡◌, ℕ, Bool, true, false, ◌&&◌, cond, is_some, List, [], ◌∷◌, map, Option, Some, None, codes, refl}
use Rattle.std.specs.List.{count_by}
use Rattle.std.specs.Option.{option_cmp}
use Rattle.std.specs.Ordering.{is_eq, is_lt, nat_cmp, ordering_then}
use Rattle.std.specs.Cmp.Lexicographic.{slice_cmp}
use Rattle.std.specs.declared.cmp.Ordering.{Ordering}
use Rattle.std.specs.declared.cmp.Ordering.TheVariants.{Less, Equal, Greater}
use Rattle.deb_version.specs.Faults.{first_fault}
use Rattle.deb_version.specs.Order.{version_cmp}
use Rattle.deb_version.specs.Parts.{Meaning}
use Rattle.deb_version.specs.Places.{version_in}

-- the version that a text is, if it is one; that of each paragraph of an accepted file is one,
-- unless the paragraph has no version
abbrev pub version_of : List ℕ → Option Meaning
version_of text = cond (is_some (first_fault text)) None (Some (version_in text))

-- two texts by their versions; a text that is none comes first
abbrev pub versions_cmp : List ℕ → List ℕ → Ordering
versions_cmp a b = option_cmp version_cmp (version_of a) (version_of b)

-- What decides on the rank of a paragraph.
pub record Placing : Type 0 where
  pub name : List ℕ
  pub architecture : List ℕ
  pub version : Option Meaning
  pub number : ℕ

abbrev pub series_cmp : Placing → Placing → Ordering
series_cmp a b =
    ordering_then (slice_cmp nat_cmp a.name b.name)
    (slice_cmp nat_cmp a.architecture b.architecture)

-- the later version first; of equal ones that with the lower number
abbrev pub latest_first : Placing → Placing → Ordering
latest_first a b =
    ordering_then (option_cmp version_cmp b.version a.version) (nat_cmp a.number b.number)

-- it has the same name and architecture, and comes first
abbrev pub goes_before : Placing → Placing → Bool
goes_before a b = is_eq (series_cmp a b) && is_lt (latest_first a b)

-- how many go before
abbrev pub rank : List Placing → Placing → ℕ
rank all one = count_by (λ a. goes_before a one) all

worked-version_of : (version_of (codes "1.0") ≡ Some (version_in (codes "1.0")))
    × (version_of (codes "1_") ≡ None) × (version_of [] ≡ None)
unfolding first_fault
worked-version_of = (refl, refl, refl)

worked-versions : (versions_cmp (codes "1.9") (codes "1.10") ≡ Less)
    × (versions_cmp (codes "1.10") (codes "1.10-0") ≡ Equal)
    × (versions_cmp (codes "1:0") (codes "9") ≡ Greater)
    × (versions_cmp [] (codes "1~") ≡ Less)
unfolding first_fault
worked-versions = (refl, refl, refl, refl)

abbrev placing : List ℕ → List ℕ → List ℕ → ℕ → Placing
placing name architecture version number =
    record {
      name = name;
      architecture = architecture;
      version = version_of version;
      number = number;
    }

abbrev x : List ℕ → ℕ → Placing
x version number = placing (codes "x") (codes "all") version number

-- a later version goes before an earlier one, and of equal ones the lower number; another name or
-- architecture never does
worked-goes_before : (goes_before (x (codes "1.10") 2) (x (codes "1.9") 1) ≡ true)
    × (goes_before (x (codes "1.9") 1) (x (codes "1.10") 2) ≡ false)
    × (goes_before (x (codes "1") 1) (x (codes "1-0") 2) ≡ true)
    × (goes_before (x (codes "1-0") 2) (x (codes "1") 1) ≡ false)
    × (goes_before (x (codes "1") 1) (x (codes "1") 1) ≡ false)
    × (goes_before (placing (codes "y") (codes "all") (codes "2") 1) (x (codes "1") 2) ≡ false)
    × (goes_before (placing (codes "x") (codes "amd64") (codes "2") 1) (x (codes "1") 2) ≡ false)
unfolding first_fault
worked-goes_before = (refl, refl, refl, refl, refl, refl, refl)

-- three of a name and architecture, and one of another name
abbrev four : List Placing
four = x (codes "1.9") 1 ∷ x (codes "1.10") 2
    ∷ placing (codes "y") (codes "all") (codes "3") 3 ∷ x (codes "1.9-0") 4 ∷ []

worked-rank : map (rank four) four ≡ 1 ∷ 0 ∷ 0 ∷ 2 ∷ []
unfolding first_fault
worked-rank = refl
