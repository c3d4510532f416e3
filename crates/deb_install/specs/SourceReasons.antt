-- Why a source package can't be built: what it needs and excludes, and what packages do, that alone
-- rule it out. Debian Policy 4.2 and 7.7; that each list is read by itself is this project's own.
use Rattle.std.specs.Prelude.{◌≡◌, ℕ, ◌+◌, ◌==◌, ◌≤◌, ◌&&◌, ◌||◌, Bool, true, false, not, List, [], ◌∷◌, ◌++◌, length, map, Some, codes, refl}
use Rattle.std.specs.List.{Contains, flat_map, list_all, list_any, slice_get}
use Rattle.std.proofs.lemmas.Bool.{ltb-true}
use Rattle.deb_relation.specs.Applying.{Environment}
use Rattle.deb_relation.specs.Meaning.{Group}
use Rattle.deb_field.specs.Values.{ValueMeaning}
use Rattle.deb_control.specs.Documents.{Meaning}
use Rattle.deb_control.specs.FieldWords.{groups_of, value_under}
use Rattle.deb_control.specs.ValueFiles.{ValueEntries}
use Rattle.deb_index.specs.Alternatives.{alone}
use Rattle.deb_index.specs.Listed.{Listed}
use Rattle.deb_unmet.specs.Asked.{build_fields}
use Rattle.deb_unmet.specs.declared.asked.Strength.TheVariants.{Depends}
use Rattle.deb_install.specs.Buildable.{implied_groups, with_ee}
use Rattle.deb_install.specs.Passing.{for_amd64, needing}
use Rattle.deb_install.specs.Reasons.{HasValues, IsTrueReason, Reason, Excludes, IsLeftOut, respects}
use Rattle.deb_install.specs.Rows.{group_rows}
use Rattle.deb_install.specs.SourceRows.{barred_in}
use Rattle.deb_install.specs.Terms.{Terms, terms}
use Rattle.deb_install.specs.Universes.{Setting, setting}
use Rattle.deb_install.specs.declared.readings.Readings.TheVariants.{One}

-- The source package with a number needs a group, which these packages meet, or it excludes a
-- package; or the reason is about a package.
pub data SourceReason : Type 0 where
  BuildNeeds : ℕ → Group → List ℕ → SourceReason
  BuildExcludes : ℕ → ℕ → SourceReason
  OfPackage : Reason → SourceReason

-- the groups that a source package needs: build-essential, and those of its fields
abbrev pub build_groups : ValueEntries ValueMeaning → List Group
build_groups values =
    implied_groups ++ flat_map (λ field. groups_of (value_under field values)) build_fields

-- The source package needs the group, it may not be ignored, and exactly these packages meet it.
pub record BuildNeedsGroup (s : Setting) (sources : Meaning) (number : ℕ) (group : Group)
    (candidates : List ℕ) : Type 0 where
  pub values : ValueEntries ValueMeaning
  pub has : HasValues sources number values
  pub needed : Contains (build_groups values) group
  pub rows : group_rows s.readings s.environment s.packages group ≡ candidates ∷ []

-- The package is among those that the source package excludes.
pub record BuildExcludesOther (s : Setting) (sources : Meaning) (number other : ℕ) : Type 0 where
  pub values : ValueEntries ValueMeaning
  pub has : HasValues sources number values
  pub excluded : Contains (barred_in s values) other

abbrev pub IsTrueOfSource : Setting → Meaning → SourceReason → Type 0
IsTrueOfSource s sources (BuildNeeds number group candidates) =
    BuildNeedsGroup s sources number group candidates
IsTrueOfSource s sources (BuildExcludes number other) = BuildExcludesOther s sources number other
IsTrueOfSource s sources (OfPackage reason) = IsTrueReason s reason

abbrev pub AreTrueOfSources : Setting → Meaning → List SourceReason → Type 0
AreTrueOfSources s sources reasons =
    (reason : SourceReason) → Contains reasons reason → IsTrueOfSource s sources reason

-- A set respects a reason about the source package that is built, with this number, if it has one
-- of the packages that meet the group, or hasn't the one that is excluded.
abbrev pub respects_built : ℕ → (ℕ → Bool) → SourceReason → Bool
respects_built number set (BuildNeeds other group candidates) =
    not (other == number) || list_any set candidates
respects_built number set (BuildExcludes other excluded) = not ((other == number) && set excluded)
respects_built number set (OfPackage reason) = respects set reason

-- No set of numbers from 1 to this count respects the reasons, whatever else its packages need or
-- exclude.
abbrev pub RuleOutSource : ℕ → List SourceReason → ℕ → Type 0
RuleOutSource count reasons number =
    (set : ℕ → Bool) → ((other : ℕ) → set other ≡ true → (1 ≤ other) × (other ≤ count))
    → list_all (respects_built number set) reasons ≡ false

-- Each reason is true, and if there is one, they rule the source package out.
pub record AreReasonsOfSource (s : Setting) (sources : Meaning) (number : ℕ)
    (reasons : List SourceReason) : Type 0 where
  pub are_true : AreTrueOfSources s sources reasons
  pub rule_out : (reasons ≡ [] → ⊥) → RuleOutSource (length s.packages) reasons number

-- There are reasons of each source package, by how many come before it, in one reading.
abbrev pub AreSourceReasonsIn : Terms → Environment → List Listed → Meaning → Meaning
    → (ℕ → List SourceReason) → Type 0
AreSourceReasonsIn t environment packages meaning sources reasons =
    (k : ℕ) (values : ValueEntries ValueMeaning) → slice_get sources k ≡ Some values
    → AreReasonsOfSource (setting One t environment packages meaning) sources (k + 1) (reasons k)

worked-groups : map build_groups
    (needing (codes "Build-Depends-Arch") ∷ needing (codes "Depends") ∷ [])
    ≡ (implied_groups ++ (alone (codes "ee") ∷ []) ∷ []) ∷ implied_groups ∷ []
worked-groups = refl

-- With ee, and build-essential as the second package: the second source package needs or excludes
-- ee. The name bb is left out.
abbrev s : Setting
s =
    setting One (terms Depends false (codes "bb" ∷ [])) for_amd64 with_ee
    ([] ∷ needing (codes "Recommends") ∷ [])

worked-need : IsTrueOfSource s ([] ∷ needing (codes "Build-Depends") ∷ [])
    (BuildNeeds 2 (alone (codes "ee") ∷ []) (1 ∷ []))
worked-need =
    record {
      values = needing (codes "Build-Depends");
      has = record { before = 1; is = refl; at = refl };
      needed = (1, ltb-true 1 2 refl, refl);
      rows = refl;
    }

worked-exclusion : IsTrueOfSource s ([] ∷ needing (codes "Build-Conflicts") ∷ [])
    (BuildExcludes 2 1)
worked-exclusion =
    record {
      values = needing (codes "Build-Conflicts");
      has = record { before = 1; is = refl; at = refl };
      excluded = (0, ltb-true 0 1 refl, refl);
    }

worked-package : IsTrueOfSource s [] (OfPackage (IsLeftOut 2))
worked-package =
    record {
      values = needing (codes "Recommends");
      has = record { before = 1; is = refl; at = refl };
      left_out = refl;
    }

-- The sets of 1 alone, and of 1 and 2. The first source package needs 2 or excludes it; of another
-- one nothing is asked.
abbrev sets : List (ℕ → Bool)
sets = (λ number. number == 1) ∷ (λ number. (number == 1) || (number == 2)) ∷ []

worked-respects : map (λ reason. map (λ set. respects_built 1 set reason) sets)
    (BuildNeeds 1 (alone (codes "ee") ∷ []) (2 ∷ []) ∷ BuildNeeds 2 (alone (codes "ee") ∷ []) []
    ∷ BuildExcludes 1 2 ∷ BuildExcludes 2 2 ∷ OfPackage (Excludes 1 2) ∷ [])
    ≡ (false ∷ true ∷ []) ∷ (true ∷ true ∷ []) ∷ (true ∷ false ∷ []) ∷ (true ∷ true ∷ [])
    ∷ (true ∷ false ∷ []) ∷ []
worked-respects = refl

-- a source package that needs a group that no package meets
worked-out : RuleOutSource 3 (BuildNeeds 2 (alone (codes "ff") ∷ []) [] ∷ []) 2
worked-out = λ set listed. refl
