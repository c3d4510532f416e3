-- Healthy sets by what the names in architecture lists mean, among them wildcards. Debian Policy
-- 7.1 and 11.1; that each target may give them another meaning is this project's own.
use Rattle.std.specs.Prelude.{◌≡◌, ℕ, ◌&&◌, Bool, true, false, not, List, [], ◌∷◌, map, codes, refl}
use Rattle.std.specs.List.{list_all, list_any}
use Rattle.std.specs.Str.{bytes_eq}
use Rattle.std.proofs.lemmas.Slice.Eq.{bytes_eq-Decides}
use Rattle.deb_relation.specs.Applying.{Environment}
use Rattle.deb_field.specs.Values.{ValueMeaning}
use Rattle.deb_control.specs.Documents.{Meaning}
use Rattle.deb_control.specs.FieldWords.{groups_of, value_under, word_under}
use Rattle.deb_control.specs.ValueFiles.{ValueEntries}
use Rattle.deb_index.specs.Listed.{Listed}
use Rattle.deb_index.specs.declared.verdict.Verdict.{Verdict}
use Rattle.deb_index.specs.declared.verdict.Verdict.TheVariants.{Ignored, Met, Unmet}
use Rattle.deb_unmet.specs.Asked.{fields_with}
use Rattle.deb_unmet.specs.Fields.{environment_for}
use Rattle.deb_unmet.specs.GroupReadings.{IsMeaning, applies_in, verdict_in}
use Rattle.deb_unmet.specs.declared.asked.Asked.TheVariants.{Packages}
use Rattle.deb_unmet.specs.declared.asked.Strength.{Strength}
use Rattle.deb_unmet.specs.declared.asked.Strength.TheVariants.{Depends}
use Rattle.deb_health.specs.Excluding.{excludes}
use Rattle.deb_health.specs.Health.{are_apart}
use Rattle.deb_health.specs.Lines.{negative_fields}
use Rattle.deb_install.specs.Passing.{for_amd64, needing, of, perhaps_needing}

-- For each target, this says which names hold it. deb_unmet says what a name may mean: the target's
-- own name holds it, a wildcard or another name with a hyphen may, and no other name does.
abbrev pub AreMeanings : (List ℕ → List ℕ → Bool) → Type 0
AreMeanings holds = (target : List ℕ) → IsMeaning target (holds target)

abbrev pub is_not_unmet : Verdict → Bool
is_not_unmet Ignored = true
is_not_unmet Met = true
is_not_unmet Unmet = false

-- By a meaning, each group that a package needs is met by a package of the set, or ignored.
abbrev pub is_abundant_by : (List ℕ → List ℕ → Bool) → Strength → Environment → List Listed
    → ValueEntries ValueMeaning → Bool
is_abundant_by holds strength environment packages values =
    list_all (λ field. list_all (λ group. is_not_unmet
    (verdict_in (holds (environment_for (Packages strength) environment values).target)
    (environment_for (Packages strength) environment values) packages group))
    (groups_of (value_under field values))) (fields_with strength)

-- No alternative of its Conflicts or Breaks that applies excludes a package of the set.
abbrev pub is_peaceful_by : (List ℕ → List ℕ → Bool) → Strength → Environment → List Listed
    → ValueEntries ValueMeaning → Bool
is_peaceful_by holds strength environment packages values =
    list_all (λ field. list_all (λ group. list_all
    (λ a. not (applies_in (holds (environment_for (Packages strength) environment values).target)
    (environment_for (Packages strength) environment values) a
    && list_any (excludes environment.native (word_under (codes "Package") values) a) packages))
    group) (groups_of (value_under field values))) negative_fields

abbrev pub is_healthy_by : (List ℕ → List ℕ → Bool) → Strength → Environment → List Listed
    → Meaning → Bool
is_healthy_by holds strength environment packages meaning =
    list_all (λ values. is_abundant_by holds strength environment packages values
    && is_peaceful_by holds strength environment packages values) meaning
    && are_apart environment.native packages

-- each name holds each target, and only its own
abbrev all_hold : List ℕ → List ℕ → Bool
all_hold target name = true

abbrev own_holds : List ℕ → List ℕ → Bool
own_holds target name = bytes_eq name target

-- the second is such a meaning
worked-own : AreMeanings own_holds
worked-own target =
    record { own = (bytes_eq-Decides target target).1 refl; closed = λ name e. refl }

worked-verdicts : map is_not_unmet (Ignored ∷ Met ∷ Unmet ∷ []) ≡ true ∷ true ∷ false ∷ []
worked-verdicts = refl

worked-abundance : (is_abundant_by all_hold Depends for_amd64 []
    (perhaps_needing (codes "Depends")) ≡ false)
    × (is_abundant_by own_holds Depends for_amd64 [] (perhaps_needing (codes "Depends")) ≡ true)
    × (is_abundant_by own_holds Depends for_amd64 [] (needing (codes "Depends")) ≡ false)
    × (is_abundant_by own_holds Depends for_amd64 (of (codes "ee") ∷ [])
    (needing (codes "Depends")) ≡ true)
worked-abundance = (refl, refl, refl, refl)

worked-peace : (is_peaceful_by all_hold Depends for_amd64 (of (codes "ee") ∷ [])
    (perhaps_needing (codes "Breaks")) ≡ false)
    × (is_peaceful_by own_holds Depends for_amd64 (of (codes "ee") ∷ [])
    (perhaps_needing (codes "Breaks")) ≡ true)
    × (is_peaceful_by own_holds Depends for_amd64 (of (codes "ee") ∷ [])
    (needing (codes "Breaks")) ≡ false)
worked-peace = (refl, refl, refl)

-- each condition alone, and a healthy set
worked-healthy : (is_healthy_by own_holds Depends for_amd64 [] (needing (codes "Depends") ∷ [])
    ≡ false)
    × (is_healthy_by own_holds Depends for_amd64 (of (codes "ee") ∷ [])
    (needing (codes "Breaks") ∷ []) ≡ false)
    × (is_healthy_by own_holds Depends for_amd64 (of (codes "ee") ∷ of (codes "ee") ∷ []) []
    ≡ false)
    × (is_healthy_by own_holds Depends for_amd64 (of (codes "ee") ∷ [])
    (needing (codes "Depends") ∷ perhaps_needing (codes "Breaks") ∷ []) ≡ true)
worked-healthy = (refl, refl, refl, refl)
