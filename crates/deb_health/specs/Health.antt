-- Which sets of packages are healthy: what each package depends on is there, and none excludes
-- another. Debian Policy 7.2 to 7.5; the two conditions are those of Mancinelli and others,
-- 'Managing the Complexity of Large Free and Open Source Package-Based Software Distributions'.
use Rattle.std.specs.Prelude.{◌≡◌, ℕ, ◌&&◌, Bool, true, false, not, List, [], ◌∷◌, is_none, codes, refl}
use Rattle.std.specs.Fmt.{digits}
use Rattle.std.specs.List.{list_all, list_any}
use Rattle.deb_base.specs.declared.version_text.VersionText.TheVariants.{Canonical}
use Rattle.deb_relation.specs.Applying.{Environment}
use Rattle.deb_relation.specs.Environments.{environment_with}
use Rattle.deb_relation.specs.Texts.{group_text}
use Rattle.deb_field.specs.Values.{ValueMeaning, NameMeans, RelationMeans, TextMeans}
use Rattle.deb_control.specs.Documents.{Meaning}
use Rattle.deb_control.specs.FieldWords.{groups_of, value_under, word_under}
use Rattle.deb_control.specs.ValueFiles.{ValueEntries}
use Rattle.deb_index.specs.Alternatives.{alone}
use Rattle.deb_index.specs.Listed.{Listed}
use Rattle.deb_index.specs.declared.members.Members.{Members}
use Rattle.deb_index.specs.declared.members.Members.TheVariants.{Installed}
use Rattle.deb_unmet.specs.Asked.{fields_with}
use Rattle.deb_unmet.specs.Fields.{environment_for}
use Rattle.deb_unmet.specs.Own.{OwnAsks, own_lines}
use Rattle.deb_unmet.specs.Readings.{applies_by, may}
use Rattle.deb_unmet.specs.Troubles.{trouble}
use Rattle.deb_unmet.specs.declared.asked.Asked.TheVariants.{Packages}
use Rattle.deb_unmet.specs.declared.asked.Strength.{Strength}
use Rattle.deb_unmet.specs.declared.asked.Strength.TheVariants.{Depends, Recommends}
use Rattle.deb_health.specs.Excluding.{excludes}
use Rattle.deb_health.specs.Lines.{listed, member_lines, negative_fields, packages as several, values as those_of_bb}
use Rattle.deb_health.specs.States.{state_text}
use Rattle.deb_health.specs.Together.{rules_out}

-- what is written of each package of a set, and of one of a status file that is none
abbrev pub asks_healthy : Members → Strength → Environment → OwnAsks
asks_healthy members strength environment =
    record {
      members = members;
      versions = Canonical;
      over = λ packages. packages;
      lines = member_lines strength environment;
      others = state_text;
    }

-- Each group that the package needs is met by a package of the set, or ignored, however its
-- architecture lists are read.
abbrev pub is_abundant : Strength → Environment → List Listed → ValueEntries ValueMeaning → Bool
is_abundant strength environment packages values =
    list_all (λ field. list_all
    (λ group. is_none
    (trouble (environment_for (Packages strength) environment values) packages group))
    (groups_of (value_under field values))) (fields_with strength)

-- No alternative of its Conflicts or Breaks that applies, or may apply, excludes a package of the
-- set.
abbrev pub is_peaceful : Strength → Environment → List Listed → ValueEntries ValueMeaning → Bool
is_peaceful strength environment packages values =
    list_all (λ field. list_all (λ group. list_all
    (λ a. not (may (applies_by (environment_for (Packages strength) environment values) a)
    && list_any (excludes environment.native (word_under (codes "Package") values) a) packages))
    group) (groups_of (value_under field values))) negative_fields

-- Packages of one name can be installed together.
abbrev pub are_apart : List ℕ → List Listed → Bool
are_apart target [] = true
are_apart target (p ∷ more) = not (list_any (rules_out target p) more) && are_apart target more

abbrev pub is_healthy : Strength → Environment → List Listed → Meaning → Bool
is_healthy strength environment packages meaning =
    list_all (λ values. is_abundant strength environment packages values
    && is_peaceful strength environment packages values) meaning
    && are_apart environment.native packages

-- For amd64: bb, which needs ee and excludes cc; and a second bb, of another version.
abbrev for_amd64 : Environment
for_amd64 = environment_with (codes "amd64") []

abbrev alone_in : List ℕ → ValueEntries ValueMeaning
alone_in field = (field, RelationMeans ((alone (codes "ee") ∷ []) ∷ [])) ∷ []

abbrev ee : Listed
ee = listed (codes "ee") (codes "1") (codes "amd64")

-- with cc, which it excludes; with dd, which it may exclude; with its own name; and with ee
worked-peace : (is_peaceful Depends for_amd64 several those_of_bb ≡ false)
    × (is_peaceful Depends for_amd64
    (listed (codes "dd") (codes "3") (codes "i386") ∷ []) those_of_bb ≡ false)
    × (is_peaceful Depends for_amd64
    (listed (codes "bb") (codes "1") (codes "amd64") ∷ []) those_of_bb ≡ true)
    × (is_peaceful Depends for_amd64 (ee ∷ []) those_of_bb ≡ true)
worked-peace = (refl, refl, refl, refl)

worked-abundance : (is_abundant Depends for_amd64 several those_of_bb ≡ false)
    × (is_abundant Depends for_amd64 (ee ∷ []) those_of_bb ≡ true)
    × (is_abundant Depends for_amd64 [] (alone_in (codes "Pre-Depends")) ≡ false)
    × (is_abundant Depends for_amd64 [] (alone_in (codes "Recommends")) ≡ true)
    × (is_abundant Recommends for_amd64 [] (alone_in (codes "Recommends")) ≡ false)
worked-abundance = (refl, refl, refl, refl, refl)

worked-apart : (are_apart (codes "amd64") several ≡ false)
    × (are_apart (codes "amd64") (ee ∷ []) ≡ true) × (are_apart (codes "amd64") [] ≡ true)
worked-apart = (refl, refl, refl)

-- each condition alone, and no package
worked-healthy : (is_healthy Depends for_amd64 (ee ∷ []) (alone_in (codes "Depends") ∷ []) ≡ true)
    × (is_healthy Depends for_amd64 [] (alone_in (codes "Depends") ∷ []) ≡ false)
    × (is_healthy Depends for_amd64 (ee ∷ []) (alone_in (codes "Breaks") ∷ []) ≡ false)
    × (is_healthy Depends for_amd64 (ee ∷ ee ∷ []) [] ≡ false)
    × (is_healthy Depends for_amd64 [] [] ≡ true)
worked-healthy = (refl, refl, refl, refl, refl)

-- what is written of a package that has no name
worked-asks : (asks_healthy Installed Depends for_amd64).lines [] 3 (codes "1")
    (alone_in (codes "Depends")) ≡ codes "unmet 3  1  Depends ee\n"
unfolding group_text digits
worked-asks = refl

-- a status file of packages without a version, of which the second is removed
abbrev named : List ℕ → ValueEntries ValueMeaning
named status = (codes "Package", NameMeans (codes "bb")) ∷ (codes "Status", TextMeans status) ∷ []

worked-states : own_lines (asks_healthy Installed Depends for_amd64) [] []
    (named (codes "install ok installed") ∷ named (codes "purge ok not-installed")
    ∷ named (codes "install ok triggers-pending") ∷ [])
    ≡ codes "state 1 bb - - installed\nstate 3 bb - - triggers-pending\n"
unfolding digits
worked-states = refl
