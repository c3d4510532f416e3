-- An index without the packages of some names: which of its packages are left, what is left of what
-- is kept beside them, and how many of each file are. The rules are this project's own.
use Rattle.std.specs.Prelude.{◌≡◌, ℕ, Bool, true, false, cond, not, length, take, drop, List, [], ◌∷◌, map, None, codes, refl}
use Rattle.std.specs.List.{filter}
use Rattle.deb_version.specs.Places.{version_in}
use Rattle.deb_relation.specs.Applying.{is_among}
use Rattle.deb_index.specs.Listed.{Listed}

-- a package has one of these names
abbrev pub is_named : List (List ℕ) → Listed → Bool
is_named names p = is_among p.name names

-- the packages that have none of them, in their order
abbrev pub without : List (List ℕ) → List Listed → List Listed
without names packages = filter (λ p. not (is_named names p)) packages

-- of a list that has an element for each package, those of the packages that are left
abbrev pub left_beside : {X : Type 0} → List (List ℕ) → List Listed → List X → List X
left_beside names [] xs = []
left_beside names (p ∷ packages) [] = []
left_beside names (p ∷ packages) (x ∷ xs) =
    cond (is_named names p) (left_beside names packages xs) (x ∷ left_beside names packages xs)

-- where files have so many packages, how many of each are left
abbrev pub counts_left : List (List ℕ) → List ℕ → List Listed → List ℕ
counts_left names [] packages = []
counts_left names (count ∷ counts) packages =
    length (without names (take count packages)) ∷ counts_left names counts (drop count packages)

-- Below, the packages are aa, aab, another aa, and cc; each provides bb.
abbrev listed : List ℕ → List ℕ → Listed
listed name version =
    record {
      name = name;
      version = version_in version;
      architecture = codes "all";
      multi_arch = None;
      provisions = record { name = codes "bb"; version = None } ∷ [];
    }

abbrev packages : List Listed
packages =
    listed (codes "aa") (codes "1") ∷ listed (codes "aab") (codes "2")
    ∷ listed (codes "aa") (codes "3") ∷ listed (codes "cc") (codes "4") ∷ []

-- one of the names, none of them, a name that begins this one, and no name
worked-named : (map (is_named (codes "bb" ∷ codes "aa" ∷ [])) packages
    ≡ true ∷ false ∷ true ∷ false ∷ []) × (map (is_named (codes "a" ∷ [])) packages
    ≡ false ∷ false ∷ false ∷ false ∷ []) × (map (is_named []) packages
    ≡ false ∷ false ∷ false ∷ false ∷ [])
worked-named = (refl, refl, refl)

-- all packages of a name are left out; a name that is provided alone, and one that isn't there,
-- leave out none
worked-without : (without (codes "aa" ∷ []) packages
    ≡ listed (codes "aab") (codes "2") ∷ listed (codes "cc") (codes "4") ∷ [])
    × (without (codes "bb" ∷ codes "zz" ∷ []) packages ≡ packages)
    × (without (codes "cc" ∷ codes "aa" ∷ codes "aab" ∷ []) packages ≡ [])
    × (without [] packages ≡ packages)
worked-without = (refl, refl, refl, refl)

-- the lines of the packages
abbrev lines : List ℕ
lines = 1 ∷ 5 ∷ 9 ∷ 13 ∷ []

worked-beside : (left_beside (codes "aa" ∷ []) packages lines ≡ 5 ∷ 13 ∷ [])
    × (left_beside [] packages lines ≡ lines)
    × (left_beside [] packages (take 1 lines) ≡ take 1 lines) × (left_beside [] [] lines ≡ [])
worked-beside = (refl, refl, refl, refl)

-- files of one package, none and three: a file from which all packages are left out is one still
worked-counts : (counts_left (codes "aa" ∷ []) (1 ∷ 0 ∷ 3 ∷ []) packages ≡ 0 ∷ 0 ∷ 2 ∷ [])
    × (counts_left [] (1 ∷ 0 ∷ 3 ∷ []) packages ≡ 1 ∷ 0 ∷ 3 ∷ [])
    × (counts_left (codes "aa" ∷ []) (2 ∷ 2 ∷ []) packages ≡ 1 ∷ 1 ∷ [])
    × (counts_left (codes "aa" ∷ []) [] packages ≡ [])
worked-counts = (refl, refl, refl, refl)
