-- What is asked of a set of packages besides that it is healthy: it has a package of each essential
-- name, and none of the names that are left out. Debian Policy 3.8 and 5.6.9; that packages can be
-- left out is this project's own.
use Rattle.std.specs.Prelude.{◌≡◌, ℕ, ◌&&◌, ◌||◌, Bool, true, false, cond, not, List, [], ◌∷◌, ◌++◌, map, Option, Some, None, codes, refl}
use Rattle.std.specs.List.{filter, list_all, list_any}
use Rattle.std.specs.Str.{bytes_eq}
use Rattle.deb_relation.specs.Applying.{is_among}
use Rattle.deb_field.specs.Values.{ValueMeaning, NameMeans, SourceMeans, VersionMeans, ArchitectureMeans, ArchitecturesMean, FlagMeans, MultiArchMeans, NumberMeans, LineMeans, FoldedMeans, RelationMeans, TextMeans}
use Rattle.deb_field.specs.declared.flag.Flag.{Flag}
use Rattle.deb_field.specs.declared.flag.Flag.TheVariants.{Yes, No}
use Rattle.deb_control.specs.Documents.{Meaning}
use Rattle.deb_control.specs.FieldWords.{value_under, word_under}
use Rattle.deb_control.specs.ValueFiles.{ValueEntries}
use Rattle.deb_index.specs.Listed.{Listed}
use Rattle.deb_index.specs.Named.{has_name, numbers_of}
use Rattle.deb_unmet.specs.declared.asked.Strength.{Strength}
use Rattle.deb_unmet.specs.declared.asked.Strength.TheVariants.{Depends}
use Rattle.deb_install.specs.Passing.{of}

-- Which fields count, whether a set has to have the essential packages, and which names it must not
-- have.
pub record Terms : Type 0 where
  pub strength : Strength
  pub essential : Bool
  pub without : List (List ℕ)

abbrev pub terms : Strength → Bool → List (List ℕ) → Terms
terms strength essential without =
    record { strength = strength; essential = essential; without = without }

-- that a set is healthy, and nothing else
abbrev pub healthy_alone : Strength → Terms
healthy_alone strength = terms strength false []

-- the value is the word `yes`
abbrev pub is_yes : Flag → Bool
is_yes Yes = true
is_yes No = false

abbrev pub says_yes_in : ValueMeaning → Bool
says_yes_in (NameMeans x) = false
says_yes_in (SourceMeans x) = false
says_yes_in (VersionMeans x) = false
says_yes_in (ArchitectureMeans x) = false
says_yes_in (ArchitecturesMean x) = false
says_yes_in (FlagMeans flag) = is_yes flag
says_yes_in (MultiArchMeans x) = false
says_yes_in (NumberMeans x) = false
says_yes_in (LineMeans x) = false
says_yes_in (FoldedMeans x) = false
says_yes_in (RelationMeans x) = false
says_yes_in (TextMeans x) = false

abbrev pub says_yes : Option ValueMeaning → Bool
says_yes None = false
says_yes (Some value) = says_yes_in value

-- A paragraph marks its package: the field Essential says yes.
abbrev pub is_marked : ValueEntries ValueMeaning → Bool
is_marked values = says_yes (value_under (codes "Essential") values)

-- the architecture is the target's, or `all`
abbrev pub is_native : List ℕ → List ℕ → Bool
is_native target architecture =
    bytes_eq architecture (codes "all") || bytes_eq architecture target

-- An essential package is marked, is of the target's architecture or of all, and isn't left out.
abbrev pub is_essential : List (List ℕ) → List ℕ → ValueEntries ValueMeaning → Bool
is_essential without target values =
    is_marked values && (is_native target (word_under (codes "Architecture") values)
    && not (is_among (word_under (codes "Package") values) without))

-- the names of the essential packages, if they are asked
abbrev pub essential_names : Terms → List ℕ → Meaning → List (List ℕ)
essential_names t target meaning =
    cond t.essential
    (map (word_under (codes "Package")) (filter (is_essential t.without target) meaning)) []

-- Of each of these names the set has a package, in some version and of some architecture.
abbrev pub has_each : List (List ℕ) → List Listed → Bool
has_each names members = list_all (λ name. list_any (has_name name) members) names

-- Of none of these names the set has a package.
abbrev pub has_none : List (List ℕ) → List Listed → Bool
has_none names members = list_all (λ name. not (list_any (has_name name) members)) names

-- The members of a set are as the terms ask. `meaning` has the values of all listed packages.
abbrev pub is_allowed : Terms → List ℕ → Meaning → List Listed → Bool
is_allowed t target meaning members =
    has_none t.without members && has_each (essential_names t target meaning) members

-- Rows of numbers that ask the same of a set that has a package of this name: one without a number
-- if that is left out, and for each essential name the packages that have it.
abbrev pub left_out_rows : List (List ℕ) → List ℕ → List (List ℕ)
left_out_rows without name = cond (is_among name without) ([] ∷ []) []

abbrev pub essential_rows : Terms → List ℕ → List Listed → Meaning → List (List ℕ)
essential_rows t target packages meaning =
    map (λ name. numbers_of (has_name name) packages) (essential_names t target meaning)

-- the row of an essential package
abbrev pub rows_if_essential : List (List ℕ) → List ℕ → List Listed → ValueEntries ValueMeaning
    → List (List ℕ)
rows_if_essential without target packages values =
    cond (is_essential without target values)
    (numbers_of (has_name (word_under (codes "Package") values)) packages ∷ []) []

abbrev pub term_rows : Terms → List ℕ → List Listed → Meaning → List ℕ → List (List ℕ)
term_rows t target packages meaning name =
    left_out_rows t.without name ++ essential_rows t target packages meaning

worked-terms : (terms Depends true (codes "bb" ∷ [])
    ≡ record { strength = Depends; essential = true; without = codes "bb" ∷ [] })
    × (healthy_alone Depends ≡ terms Depends false [])
worked-terms = (refl, refl)

-- the values of a package of this name and architecture, with Essential
abbrev with_flag : List ℕ → List ℕ → ValueMeaning → ValueEntries ValueMeaning
with_flag name architecture value =
    (codes "Architecture", ArchitectureMeans architecture)
    ∷ (codes "Essential", value)
    ∷ (codes "Package", NameMeans name) ∷ []

worked-yes : (map is_yes (Yes ∷ No ∷ []) ≡ true ∷ false ∷ [])
    × (map says_yes_in (FlagMeans Yes ∷ FlagMeans No ∷ TextMeans (codes "yes") ∷ [])
    ≡ true ∷ false ∷ false ∷ [])
    × (map says_yes (None ∷ Some (FlagMeans Yes) ∷ []) ≡ false ∷ true ∷ [])
    × (map (λ value. is_marked (with_flag (codes "aa") (codes "all") value))
    (FlagMeans Yes ∷ FlagMeans No ∷ []) ≡ true ∷ false ∷ [])
    × (is_marked [] ≡ false)
worked-yes = (refl, refl, refl, refl, refl)

-- for amd64, without dd: of amd64, of all, of i386, not marked, and left out
abbrev five : Meaning
five =
    with_flag (codes "aa") (codes "amd64") (FlagMeans Yes)
    ∷ with_flag (codes "bb") (codes "all") (FlagMeans Yes)
    ∷ with_flag (codes "cc") (codes "i386") (FlagMeans Yes)
    ∷ with_flag (codes "ee") (codes "amd64") (FlagMeans No)
    ∷ with_flag (codes "dd") (codes "amd64") (FlagMeans Yes) ∷ []

worked-essential : (map (is_native (codes "amd64"))
    (codes "amd64" ∷ codes "all" ∷ codes "i386" ∷ []) ≡ true ∷ true ∷ false ∷ [])
    × (map (is_essential (codes "dd" ∷ []) (codes "amd64")) five
    ≡ true ∷ true ∷ false ∷ false ∷ false ∷ [])
    × (essential_names (terms Depends true (codes "dd" ∷ [])) (codes "amd64") five
    ≡ codes "aa" ∷ codes "bb" ∷ [])
    × (essential_names (terms Depends false []) (codes "amd64") five ≡ [])
worked-essential = (refl, refl, refl, refl)

-- sets with bb alone, and with aa and bb
abbrev bb : List Listed
bb = of (codes "bb") ∷ []

abbrev both : List Listed
both = of (codes "aa") ∷ of (codes "bb") ∷ []

worked-has : (map (has_each (codes "aa" ∷ codes "bb" ∷ [])) (both ∷ bb ∷ [] ∷ [])
    ≡ true ∷ false ∷ false ∷ []) × (has_each [] [] ≡ true)
    × (map (has_none (codes "aa" ∷ codes "cc" ∷ [])) (both ∷ bb ∷ [] ∷ [])
    ≡ false ∷ true ∷ true ∷ [])
worked-has = (refl, refl, refl)

-- with each condition alone, and with none
worked-allowed : (map (is_allowed (terms Depends true []) (codes "amd64") five)
    ((of (codes "dd") ∷ both) ∷ both ∷ [] ∷ []) ≡ true ∷ false ∷ false ∷ [])
    × (map (is_allowed (terms Depends false (codes "aa" ∷ [])) (codes "amd64") five)
    (both ∷ bb ∷ []) ≡ false ∷ true ∷ [])
    × (map (is_allowed (healthy_alone Depends) (codes "amd64") five) (both ∷ [] ∷ [])
    ≡ true ∷ true ∷ [])
worked-allowed = (refl, refl, refl)

worked-rows : (map (left_out_rows (codes "dd" ∷ [])) (codes "dd" ∷ codes "aa" ∷ [])
    ≡ ([] ∷ []) ∷ [] ∷ [])
    × (essential_rows (terms Depends true (codes "dd" ∷ [])) (codes "amd64")
    (of (codes "bb") ∷ both) five ≡ (2 ∷ []) ∷ (1 ∷ 3 ∷ []) ∷ [])
    × (map (rows_if_essential [] (codes "amd64") both) five
    ≡ ((1 ∷ []) ∷ []) ∷ ((2 ∷ []) ∷ []) ∷ [] ∷ [] ∷ ([] ∷ []) ∷ [])
    × (term_rows (terms Depends true (codes "dd" ∷ [])) (codes "amd64") both five (codes "dd")
    ≡ [] ∷ (1 ∷ []) ∷ (2 ∷ []) ∷ [])
worked-rows = (refl, refl, refl, refl)
