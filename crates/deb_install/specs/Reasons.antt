-- Why a package can't be installed: needs and exclusions of packages that alone rule it out. Debian
-- Policy 3.8 and 7.1 to 7.4; that each list is read by itself, and that packages can be left out,
-- is this project's own.
use Rattle.std.specs.Prelude.{◌≡◌, ℕ, ◌+◌, ◌==◌, ◌≤◌, ◌&&◌, ◌||◌, Bool, true, false, not, List, [], ◌∷◌, length, map, Some, codes, refl}
use Rattle.std.specs.List.{Contains, list_all, list_any, slice_get}
use Rattle.std.proofs.lemmas.Bool.{false≢true, ltb-true}
use Rattle.deb_relation.specs.Applying.{Environment, is_among}
use Rattle.deb_relation.specs.Meaning.{Group}
use Rattle.deb_field.specs.Values.{ValueMeaning, ArchitectureMeans, FlagMeans, NameMeans}
use Rattle.deb_field.specs.declared.flag.Flag.TheVariants.{Yes}
use Rattle.deb_control.specs.Documents.{Meaning}
use Rattle.deb_control.specs.FieldWords.{groups_of, value_under, word_under}
use Rattle.deb_control.specs.ValueFiles.{ValueEntries}
use Rattle.deb_index.specs.Alternatives.{alone}
use Rattle.deb_index.specs.Listed.{Listed}
use Rattle.deb_index.specs.Named.{has_name, numbers_of}
use Rattle.deb_unmet.specs.Asked.{fields_with}
use Rattle.deb_unmet.specs.Fields.{environment_for}
use Rattle.deb_unmet.specs.declared.asked.Asked.TheVariants.{Packages}
use Rattle.deb_unmet.specs.declared.asked.Strength.TheVariants.{Depends}
use Rattle.deb_install.specs.Passing.{for_amd64, needing, of}
use Rattle.deb_install.specs.Rows.{group_rows}
use Rattle.deb_install.specs.Terms.{Terms, essential_names, terms}
use Rattle.deb_install.specs.Universes.{Setting, excluded_in, setting}
use Rattle.deb_install.specs.declared.readings.Readings.TheVariants.{One}

-- The package with a number needs a group, which these packages meet; it needs a package of an
-- essential name, which these have; it is left out; or it excludes another one.
pub data Reason : Type 0 where
  Needs : ℕ → Group → List ℕ → Reason
  NeedsName : ℕ → List ℕ → List ℕ → Reason
  IsLeftOut : ℕ → Reason
  Excludes : ℕ → ℕ → Reason

-- The package with this number has these values. Numbers are counted from 1.
pub record HasValues (meaning : Meaning) (number : ℕ) (values : ValueEntries ValueMeaning) :
    Type 0 where
  pub before : ℕ
  pub is : number ≡ before + 1
  pub at : slice_get meaning before ≡ Some values

-- The group is in a field that counts, it may not be ignored, and exactly these packages meet it.
pub record NeedsGroup (s : Setting) (number : ℕ) (group : Group) (candidates : List ℕ) : Type 0
  where
    pub values : ValueEntries ValueMeaning
    pub has : HasValues s.values number values
    pub field : List ℕ
    pub counts : Contains (fields_with s.terms.strength) field
    pub needed : Contains (groups_of (value_under field values)) group
    pub rows : group_rows s.readings
        (environment_for (Packages s.terms.strength) s.environment values) s.packages group
        ≡ candidates ∷ []

-- The name is one of the essential ones, which are asked, and exactly these packages have it.
pub record NeedsEssential (s : Setting) (number : ℕ) (name candidates : List ℕ) : Type 0 where
  pub values : ValueEntries ValueMeaning
  pub has : HasValues s.values number values
  pub essential : Contains (essential_names s.terms s.environment.native s.values) name
  pub have : candidates ≡ numbers_of (has_name name) s.packages

-- The name of the package is left out.
pub record IsWithout (s : Setting) (number : ℕ) : Type 0 where
  pub values : ValueEntries ValueMeaning
  pub has : HasValues s.values number values
  pub left_out : is_among (word_under (codes "Package") values) s.terms.without ≡ true

-- The other package is among those that the package can't be in a set with.
pub record ExcludesOther (s : Setting) (number other : ℕ) : Type 0 where
  pub values : ValueEntries ValueMeaning
  pub has : HasValues s.values number values
  pub excluded : Contains (excluded_in s number values) other

abbrev pub IsTrueReason : Setting → Reason → Type 0
IsTrueReason s (Needs number group candidates) = NeedsGroup s number group candidates
IsTrueReason s (NeedsName number name candidates) = NeedsEssential s number name candidates
IsTrueReason s (IsLeftOut number) = IsWithout s number
IsTrueReason s (Excludes number other) = ExcludesOther s number other

abbrev pub AreTrueReasons : Setting → List Reason → Type 0
AreTrueReasons s reasons = (reason : Reason) → Contains reasons reason → IsTrueReason s reason

-- A set respects a need if it doesn't contain the package or contains one of the others, that a
-- package is left out if it doesn't contain it, and an exclusion if it doesn't contain both.
abbrev pub respects : (ℕ → Bool) → Reason → Bool
respects set (Needs number group candidates) = not (set number) || list_any set candidates
respects set (NeedsName number name candidates) = not (set number) || list_any set candidates
respects set (IsLeftOut number) = not (set number)
respects set (Excludes number other) = not (set number && set other)

-- No set of numbers from 1 to this count that respects the reasons contains the number, whatever
-- else its packages need or exclude.
abbrev pub RuleOut : ℕ → List Reason → ℕ → Type 0
RuleOut count reasons number =
    (set : ℕ → Bool) → ((other : ℕ) → set other ≡ true → (1 ≤ other) × (other ≤ count))
    → list_all (respects set) reasons ≡ true → set number ≡ false

-- Each reason is true, and if there is one, they rule the package out.
pub record AreReasonsOf (s : Setting) (number : ℕ) (reasons : List Reason) : Type 0 where
  pub are_true : AreTrueReasons s reasons
  pub rule_out : (reasons ≡ [] → ⊥) → RuleOut (length s.packages) reasons number

-- There are reasons of each package, by its number, in one reading.
abbrev pub AreReasonsIn : Terms → Environment → List Listed → Meaning → (ℕ → List Reason)
    → Type 0
AreReasonsIn t environment packages meaning reasons =
    (number : ℕ) → AreReasonsOf (setting One t environment packages meaning) number
    (reasons number)

-- Of bb, ee and ee, these are the values. ee is essential, and the name zz is left out.
abbrev s : Meaning → Setting
s values =
    setting One (terms Depends true (codes "zz" ∷ [])) for_amd64
    (of (codes "bb") ∷ of (codes "ee") ∷ of (codes "ee") ∷ []) values

abbrev ee : ValueEntries ValueMeaning
ee =
    (codes "Architecture", ArchitectureMeans (codes "all"))
    ∷ (codes "Essential", FlagMeans Yes)
    ∷ (codes "Package", NameMeans (codes "ee")) ∷ []

worked-values : HasValues (needing (codes "Depends") ∷ [] ∷ []) 2 []
worked-values = record { before = 1; is = refl; at = refl }

worked-need : IsTrueReason (s (needing (codes "Depends") ∷ [] ∷ [] ∷ []))
    (Needs 1 (alone (codes "ee") ∷ []) (2 ∷ 3 ∷ []))
worked-need =
    record {
      values = needing (codes "Depends");
      has = record { before = 0; is = refl; at = refl };
      field = codes "Depends";
      counts = (1, ltb-true 1 2 refl, refl);
      needed = (0, ltb-true 0 1 refl, refl);
      rows = refl;
    }

worked-terms : IsTrueReason (s ([] ∷ ee ∷ [] ∷ [])) (NeedsName 1 (codes "ee") (2 ∷ 3 ∷ []))
    × IsTrueReason (s (((codes "Package", NameMeans (codes "zz")) ∷ []) ∷ [])) (IsLeftOut 1)
worked-terms = (
  record {
    values = [];
    has = record { before = 0; is = refl; at = refl };
    essential = (0, ltb-true 0 1 refl, refl);
    have = refl;
  },
  record {
    values = (codes "Package", NameMeans (codes "zz")) ∷ [];
    has = record { before = 0; is = refl; at = refl };
    left_out = refl;
  },
)

-- 1 breaks ee, and 3 is a later package of the name of 2
worked-exclusions : IsTrueReason (s (needing (codes "Breaks") ∷ [] ∷ [] ∷ [])) (Excludes 1 3)
    × IsTrueReason (s (needing (codes "Breaks") ∷ [] ∷ [] ∷ [])) (Excludes 2 3)
worked-exclusions = (
  record {
    values = needing (codes "Breaks");
    has = record { before = 0; is = refl; at = refl };
    excluded = (1, ltb-true 1 2 refl, refl);
  },
  record {
    values = [];
    has = record { before = 1; is = refl; at = refl };
    excluded = (0, ltb-true 0 1 refl, refl);
  },
)

-- the sets of 1 alone, of 1 and 3, and of 2 and 3
abbrev sets : List (ℕ → Bool)
sets =
    (λ number. number == 1) ∷ (λ number. (number == 1) || (number == 3))
    ∷ (λ number. (number == 2) || (number == 3)) ∷ []

worked-respects : (map (λ set. respects set (Needs 1 (alone (codes "ee") ∷ []) (2 ∷ 3 ∷ []))) sets
    ≡ false ∷ true ∷ true ∷ [])
    × (map (λ set. respects set (NeedsName 1 (codes "ee") (2 ∷ 3 ∷ []))) sets
    ≡ false ∷ true ∷ true ∷ [])
    × (map (λ set. respects set (IsLeftOut 2)) sets ≡ true ∷ true ∷ false ∷ [])
    × (map (λ set. respects set (Excludes 1 3)) sets ≡ true ∷ false ∷ true ∷ [])
    × (map (λ set. respects set (Excludes 2 3)) sets ≡ true ∷ true ∷ false ∷ [])
worked-respects = (refl, refl, refl, refl, refl)

out : (v : Bool) → ((not v || false) && true) ≡ true → v ≡ false
out true is = absurd (false≢true is)
out false is = refl

-- a package that needs a group that no package meets
worked-out : RuleOut 3 (Needs 1 (alone (codes "ff") ∷ []) [] ∷ []) 1
worked-out = λ set listed respected. out (set 1) respected
