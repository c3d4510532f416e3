-- Which packages of a list are installable: a healthy set contains each. Debian Policy 7.2 to 7.5;
-- the definition is that of Mancinelli and others, 'Managing the Complexity of Large Free and Open
-- Source Package-Based Software Distributions'.
use Rattle.std.specs.Prelude.{◌≡◌, ℕ, ◌≤◌, ◌==◌, ◌&&◌, Bool, true, false, not, List, [], ◌∷◌, length, map, codes, refl}
use Rattle.std.specs.List.{list_all}
use Rattle.std.proofs.lemmas.Bool.{leb-true}
use Rattle.deb_relation.specs.Applying.{Environment}
use Rattle.deb_field.specs.Values.{ValueMeaning}
use Rattle.deb_control.specs.Documents.{Meaning}
use Rattle.deb_control.specs.FieldWords.{word_under}
use Rattle.deb_control.specs.ValueFiles.{ValueEntries}
use Rattle.deb_index.specs.Listed.{Listed}
use Rattle.deb_unmet.specs.Asked.{fields_with}
use Rattle.deb_unmet.specs.Fields.{environment_for}
use Rattle.deb_unmet.specs.declared.asked.Asked.TheVariants.{Packages}
use Rattle.deb_unmet.specs.declared.asked.Strength.{Strength}
use Rattle.deb_unmet.specs.declared.asked.Strength.TheVariants.{Depends, Recommends}
use Rattle.deb_health.specs.Health.{are_apart, is_healthy}
use Rattle.deb_health.specs.Lines.{negative_fields}
use Rattle.deb_install.specs.Members.{members_of}
use Rattle.deb_install.specs.Passing.{fields_pass, fields_spare, for_amd64, needing, of, perhaps_needing}
use Rattle.deb_install.specs.Terms.{Terms, healthy_alone, is_allowed, terms}
use Rattle.deb_install.specs.declared.readings.Readings.{Readings}
use Rattle.deb_install.specs.declared.readings.Readings.TheVariants.{Every, One}

-- In some reading of its architecture lists, each group that the package needs is met by a package
-- of the set, or ignored.
abbrev pub can_be_abundant : Strength → Environment → List Listed → ValueEntries ValueMeaning
    → Bool
can_be_abundant strength environment packages values =
    fields_pass One (environment_for (Packages strength) environment values) packages values
    (fields_with strength)

-- In some reading, no alternative of its Conflicts or Breaks that applies excludes a package of the
-- set: none that applies in every reading does.
abbrev pub can_be_peaceful : Strength → Environment → List Listed → ValueEntries ValueMeaning
    → Bool
can_be_peaceful strength environment packages values =
    fields_spare One (environment_for (Packages strength) environment values) environment.native
    (word_under (codes "Package") values) packages values negative_fields

abbrev pub can_be_healthy : Strength → Environment → List Listed → Meaning → Bool
can_be_healthy strength environment packages meaning =
    list_all (λ values. can_be_abundant strength environment packages values
    && can_be_peaceful strength environment packages values) meaning
    && are_apart environment.native packages

-- A set is healthy in every reading if no group of a package can be unmet, and no alternative that
-- may apply excludes a package of the set. It is healthy in one if each group can be met or
-- ignored, and no alternative that surely applies excludes a package of the set. Each list is read
-- by itself, so one reading serves all groups: `readings_decide` of deb_unmet says it of each.
abbrev pub is_healthy_in : Readings → Strength → Environment → List Listed → Meaning → Bool
is_healthy_in Every strength environment packages meaning =
    is_healthy strength environment packages meaning
is_healthy_in One strength environment packages meaning =
    can_be_healthy strength environment packages meaning

-- A set of the listed packages is as the terms ask, and healthy.
abbrev pub is_healthy_by_terms : Readings → Terms → Environment → List Listed → Meaning
    → (ℕ → Bool) → Bool
is_healthy_by_terms readings t environment packages meaning set =
    is_allowed t environment.native meaning (members_of set packages)
    && is_healthy_in readings t.strength environment (members_of set packages)
    (members_of set meaning)

-- The package with this number, which is counted from 1, is installable: a healthy set of the
-- listed packages that is as the terms ask contains it.
pub record IsInstallable (readings : Readings) (t : Terms) (environment : Environment)
    (packages : List Listed) (meaning : Meaning) (number : ℕ) : Type 0 where
  pub set : ℕ → Bool
  pub contains : set number ≡ true
  pub listed : (1 ≤ number) × (number ≤ length packages)
  pub healthy : is_healthy_by_terms readings t environment packages meaning set ≡ true

worked-abundance : (can_be_abundant Depends for_amd64 [] (needing (codes "Depends")) ≡ false)
    × (can_be_abundant Depends for_amd64 [] (perhaps_needing (codes "Depends")) ≡ true)
    × (can_be_abundant Depends for_amd64 (of (codes "ee") ∷ []) (needing (codes "Depends"))
    ≡ true)
    × (can_be_abundant Depends for_amd64 [] (needing (codes "Pre-Depends")) ≡ false)
    × (can_be_abundant Depends for_amd64 [] (needing (codes "Recommends")) ≡ true)
    × (can_be_abundant Recommends for_amd64 [] (needing (codes "Recommends")) ≡ false)
worked-abundance = (refl, refl, refl, refl, refl, refl)

worked-peace : (can_be_peaceful Depends for_amd64 (of (codes "ee") ∷ []) (needing (codes "Breaks"))
    ≡ false)
    × (can_be_peaceful Depends for_amd64 (of (codes "ee") ∷ []) (needing (codes "Conflicts"))
    ≡ false)
    × (can_be_peaceful Depends for_amd64 (of (codes "ee") ∷ [])
    (perhaps_needing (codes "Conflicts")) ≡ true)
    × (can_be_peaceful Depends for_amd64 (of (codes "bb") ∷ []) (needing (codes "Conflicts"))
    ≡ true)
worked-peace = (refl, refl, refl, refl)

-- each condition alone, in one reading
worked-one : (can_be_healthy Depends for_amd64 [] (needing (codes "Depends") ∷ []) ≡ false)
    × (can_be_healthy Depends for_amd64 (of (codes "ee") ∷ []) (needing (codes "Breaks") ∷ [])
    ≡ false)
    × (can_be_healthy Depends for_amd64 (of (codes "ee") ∷ of (codes "ee") ∷ []) [] ≡ false)
    × (can_be_healthy Depends for_amd64 (of (codes "ee") ∷ [])
    (needing (codes "Depends") ∷ perhaps_needing (codes "Breaks") ∷ []) ≡ true)
worked-one = (refl, refl, refl, refl)

-- in every reading, and in one
worked-readings : (is_healthy_in Every Depends for_amd64 [] (perhaps_needing (codes "Depends") ∷ [])
    ≡ false)
    × (is_healthy_in One Depends for_amd64 [] (perhaps_needing (codes "Depends") ∷ []) ≡ true)
    × (is_healthy_in Every Depends for_amd64 (of (codes "ee") ∷ [])
    (perhaps_needing (codes "Breaks") ∷ []) ≡ false)
    × (is_healthy_in Every Depends for_amd64 (of (codes "ee") ∷ [])
    (perhaps_needing (codes "Depends") ∷ []) ≡ true)
worked-readings = (refl, refl, refl, refl)

-- the set of ee, which is left out, which isn't, and which isn't healthy
worked-terms : (map (λ t. is_healthy_by_terms Every t for_amd64 (of (codes "ee") ∷ [])
    (perhaps_needing (codes "Depends") ∷ []) (λ number. true))
    (terms Depends false (codes "ee" ∷ []) ∷ healthy_alone Depends ∷ []) ≡ false ∷ true ∷ [])
    × (is_healthy_by_terms Every (healthy_alone Depends) for_amd64 (of (codes "ee") ∷ [])
    (needing (codes "Breaks") ∷ []) (λ number. true) ≡ false)
worked-terms = (refl, refl)

-- bb, which needs ee; another bb, which excludes ee; and ee: the first is installable with the last
worked-installable : IsInstallable Every (healthy_alone Depends) for_amd64
    (of (codes "bb") ∷ of (codes "bb") ∷ of (codes "ee") ∷ [])
    (needing (codes "Depends") ∷ needing (codes "Conflicts") ∷ [] ∷ []) 1
worked-installable =
    record {
      set = λ number. not (number == 2);
      contains = refl;
      listed = (leb-true 1 1 refl, leb-true 1 3 refl);
      healthy = refl;
    }
