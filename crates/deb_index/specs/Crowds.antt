-- Crowded names, and the versions in which packages have or provide them. Debian Policy 7.1 and
-- 7.5.
use Rattle.std.specs.Prelude.{◌≡◌, ℕ, ◌+◌, ◌==◌, ◌&&◌, ◌||◌, Bool, true, false, List, [], ◌∷◌, map, Option, None, Some, codes, refl}
use Rattle.std.specs.List.{list_any}
use Rattle.std.specs.List.Sorted.{IsSortedBy}
use Rattle.std.specs.Option.{option_map_or}
use Rattle.std.specs.Ordering.{is_lt}
use Rattle.std.specs.Str.{bytes_eq}
use Rattle.deb_version.specs.Order.{version_cmp}
use Rattle.deb_version.specs.Parts.{Meaning as Version}
use Rattle.deb_version.specs.Places.{version_in}
use Rattle.deb_relation.specs.Applying.{Environment}
use Rattle.deb_relation.specs.Meaning.{Alternative}
use Rattle.deb_index.specs.Listed.{Listed, Provision}
use Rattle.deb_index.specs.Maps.{list_under}
use Rattle.deb_index.specs.Meeting.{meets_by_name, meets_qualifier}
use Rattle.deb_index.specs.Named.{package_at}
use Rattle.deb_index.specs.Offers.{number_of, offer_cmp, offered}
use Rattle.deb_index.specs.Stores.{listed_in}
use Rattle.deb_index.specs.declared.crowds.Crowds.{Crowds}
use Rattle.deb_index.specs.declared.store.Store.{Store}

-- a package provides a name in a version that passes a test
abbrev pub provides_passing : List ℕ → (Version → Bool) → Listed → Bool
provides_passing name test p =
    list_any (λ q. bytes_eq q.name name && option_map_or test q.version false) p.provisions

-- it has the name in such a version, or provides it so
abbrev pub has_passing : List ℕ → (Version → Bool) → Listed → Bool
has_passing name test p = (bytes_eq p.name name && test p.version) || provides_passing name test p

-- a test passes for some package and its number, where the first has this one
abbrev pub any_numbered : (ℕ → Listed → Bool) → ℕ → List Listed → Bool
any_numbered test number [] = false
any_numbered test number (p ∷ packages) =
    test number p || any_numbered test (number + 1) packages

-- a test passes for the number of the package of an offer, and for its version
abbrev pub passes : (ℕ → Version → Bool) → Store → ℕ → Bool
passes test store o = option_map_or (test (number_of store o)) (offered store o) false

-- Offers were appended: those that pass a test are as this says of each test.
abbrev pub AppendsOffers : Store → List ℕ → List ℕ → ((ℕ → Version → Bool) → Bool) → Type 0
AppendsOffers store old new passing =
    (test : ℕ → Version → Bool)
    → list_any (passes test store) new ≡ (list_any (passes test store) old || passing test)

abbrev pub comes_first : Store → ℕ → ℕ → Bool
comes_first store a b = is_lt (offer_cmp store a b)

-- These are all versions in which packages have or provide a name, in order.
pub record AreOffers (store : Store) (name : List ℕ) (offers : List ℕ) : Type 0 where
  pub all : (test : ℕ → Version → Bool) → list_any (passes test store) offers
      ≡ any_numbered (λ n p. has_passing name (test n) p) 1 (listed_in store)
  pub sorted : IsSortedBy (comes_first store) offers

-- so is what is kept under each crowded name
abbrev pub AreCrowds : Store → Crowds → Type 0
AreCrowds store crowds =
    (name offers : List ℕ) → list_under crowds.offers name ≡ Some offers
    → AreOffers store name offers

-- These are the numbers of the packages that meet an alternative by name and bound.
abbrev pub AreMeeting : Alternative → List Listed → List ℕ → Type 0
AreMeeting a packages numbers =
    (test : ℕ → Bool) → list_any test numbers
    ≡ any_numbered (λ n p. test n && meets_by_name a p) 1 packages

-- the package of a number meets a qualifier
abbrev pub is_of : Environment → Option (List ℕ) → List Listed → ℕ → Bool
is_of environment qualifier packages number =
    option_map_or (meets_qualifier environment qualifier) (package_at number packages) false

-- aa in version 1 for amd64, which provides vv in version 3, without one, and xx in version 3; and
-- bb in version 2 for i386, which provides vv in version 4
abbrev listed : List ℕ → List ℕ → List ℕ → List Provision → Listed
listed name version architecture provisions =
    record {
      name = name;
      version = version_in version;
      architecture = architecture;
      multi_arch = None;
      provisions = provisions;
    }

abbrev in_version : List ℕ → List ℕ → Provision
in_version name version = record { name = name; version = Some (version_in version) }

abbrev two_listed : List Listed
two_listed =
    listed (codes "aa") (codes "1") (codes "amd64")
    (in_version (codes "vv") (codes "3") ∷ record { name = codes "vv"; version = None }
    ∷ in_version (codes "xx") (codes "3") ∷ [])
    ∷ listed (codes "bb") (codes "2") (codes "i386") (in_version (codes "vv") (codes "4") ∷ [])
    ∷ []

-- the second package is bb, the first isn't, and there is no third one
worked-any_numbered : map
    (λ number. any_numbered (λ n p. (n == number) && bytes_eq p.name (codes "bb")) 1 two_listed)
    (1 ∷ 2 ∷ 3 ∷ []) ≡ false ∷ true ∷ false ∷ []
worked-any_numbered = refl

-- vv, xx, aa and bb, where versions before 4 pass
abbrev early : Version → Bool
early version = is_lt (version_cmp version (version_in (codes "4")))

worked-provides : map (λ name. map (provides_passing name early) two_listed)
    (codes "vv" ∷ codes "xx" ∷ codes "aa" ∷ codes "bb" ∷ [])
    ≡ (true ∷ false ∷ []) ∷ (true ∷ false ∷ []) ∷ (false ∷ false ∷ []) ∷ (false ∷ false ∷ []) ∷ []
worked-provides = refl

worked-has : map (λ name. map (has_passing name early) two_listed)
    (codes "vv" ∷ codes "xx" ∷ codes "aa" ∷ codes "bb" ∷ [])
    ≡ (true ∷ false ∷ []) ∷ (true ∷ false ∷ []) ∷ (true ∷ false ∷ []) ∷ (false ∷ true ∷ []) ∷ []
worked-has = refl

-- for amd64 without a qualifier and with i386: aa, bb and no package
abbrev amd64 : Environment
amd64 = record { target = codes "amd64"; native = codes "amd64"; profiles = [] }

worked-is_of : map
    (λ qualifier. map (is_of amd64 qualifier two_listed) (1 ∷ 2 ∷ 3 ∷ []))
    (None ∷ Some (codes "i386") ∷ [])
    ≡ (true ∷ false ∷ false ∷ []) ∷ (false ∷ true ∷ false ∷ []) ∷ []
worked-is_of = refl
