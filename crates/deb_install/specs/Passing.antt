-- Which groups pass and which alternatives count, in every reading of architecture lists or in one.
-- Debian Policy 7.1 to 7.4; that each list is read by itself is this project's own.
use Rattle.std.specs.Prelude.{◌≡◌, ℕ, ◌&&◌, Bool, true, false, not, is_none, List, [], ◌∷◌, map, codes, refl}
use Rattle.std.specs.List.{list_all, list_any}
use Rattle.deb_relation.specs.Applying.{Environment}
use Rattle.deb_relation.specs.Environments.{environment_with}
use Rattle.deb_relation.specs.Meaning.{Group}
use Rattle.deb_field.specs.Values.{ValueMeaning, NameMeans, RelationMeans}
use Rattle.deb_control.specs.FieldWords.{groups_of, value_under}
use Rattle.deb_control.specs.ValueFiles.{ValueEntries}
use Rattle.deb_index.specs.Alternatives.{alone, with_list}
use Rattle.deb_index.specs.Listed.{Listed}
use Rattle.deb_unmet.specs.Readings.{applies_by, may, surely}
use Rattle.deb_unmet.specs.Troubles.{can_be_otherwise, trouble}
use Rattle.deb_unmet.specs.declared.applying.Applies.{Applies}
use Rattle.deb_unmet.specs.declared.applying.Applies.TheVariants.{Surely, Maybe, Never}
use Rattle.deb_health.specs.Excluding.{excludes}
use Rattle.deb_health.specs.Lines.{listed}
use Rattle.deb_install.specs.declared.readings.Readings.{Readings}
use Rattle.deb_install.specs.declared.readings.Readings.TheVariants.{Every, One}

-- A group passes in every reading if it can't be unmet, and in one if it can be met or ignored.
abbrev pub group_passes : Readings → Environment → List Listed → Group → Bool
group_passes Every environment packages group = is_none (trouble environment packages group)
group_passes One environment packages group = can_be_otherwise environment packages group

-- each group in these fields passes
abbrev pub fields_pass : Readings → Environment → List Listed → ValueEntries ValueMeaning
    → List (List ℕ) → Bool
fields_pass readings environment packages values fields =
    list_all (λ field. list_all (group_passes readings environment packages)
    (groups_of (value_under field values))) fields

-- An alternative that excludes packages counts in every reading if it may apply, and in one if it
-- surely applies.
abbrev pub counts : Readings → Applies → Bool
counts Every applies = may applies
counts One applies = surely applies

-- No alternative in these fields that counts excludes a package of the set. The package with the
-- fields has this name and environment, and the target is that of the whole index.
abbrev pub fields_spare : Readings → Environment → List ℕ → List ℕ → List Listed
    → ValueEntries ValueMeaning → List (List ℕ) → Bool
fields_spare readings environment target name packages values fields =
    list_all (λ field. list_all (λ group. list_all
    (λ a. not (counts readings (applies_by environment a)
    && list_any (excludes target name a) packages)) group) (groups_of (value_under field values)))
    fields

-- For amd64: bb, with one group in a field, and ee.
abbrev pub for_amd64 : Environment
for_amd64 = environment_with (codes "amd64") []

abbrev pub of : List ℕ → Listed
of name = listed name (codes "1") (codes "amd64")

-- ee in a field of bb, alone or with [linux-any]
abbrev pub needing : List ℕ → ValueEntries ValueMeaning
needing field =
    (field, RelationMeans ((alone (codes "ee") ∷ []) ∷ []))
    ∷ (codes "Package", NameMeans (codes "bb")) ∷ []

abbrev pub perhaps_needing : List ℕ → ValueEntries ValueMeaning
perhaps_needing field =
    (field, RelationMeans ((with_list (codes "ee") false (codes "linux-any") ∷ []) ∷ []))
    ∷ (codes "Package", NameMeans (codes "bb")) ∷ []

worked-groups : (map (λ readings. group_passes readings for_amd64 [] (alone (codes "ee") ∷ []))
    (Every ∷ One ∷ []) ≡ false ∷ false ∷ [])
    × (map (λ readings. group_passes readings for_amd64 []
    (with_list (codes "ee") false (codes "linux-any") ∷ [])) (Every ∷ One ∷ [])
    ≡ false ∷ true ∷ [])
    × (map (λ readings. group_passes readings for_amd64 (of (codes "ee") ∷ [])
    (alone (codes "ee") ∷ [])) (Every ∷ One ∷ []) ≡ true ∷ true ∷ [])
worked-groups = (refl, refl, refl)

-- of the fields that are asked alone
worked-fields : map (λ readings. map (fields_pass readings for_amd64 []
    (perhaps_needing (codes "Depends"))) ((codes "Depends" ∷ []) ∷ (codes "Pre-Depends" ∷ []) ∷ []))
    (Every ∷ One ∷ []) ≡ (false ∷ true ∷ []) ∷ (true ∷ true ∷ []) ∷ []
worked-fields = refl

worked-spared : map (λ readings. map (fields_spare readings for_amd64 (codes "amd64") (codes "bb")
    (of (codes "ee") ∷ []) (perhaps_needing (codes "Breaks")))
    ((codes "Breaks" ∷ []) ∷ (codes "Conflicts" ∷ []) ∷ [])) (Every ∷ One ∷ [])
    ≡ (false ∷ true ∷ []) ∷ (true ∷ true ∷ []) ∷ []
worked-spared = refl

worked-counts : (map (counts Every) (Surely ∷ Maybe ∷ Never ∷ []) ≡ true ∷ true ∷ false ∷ [])
    × (map (counts One) (Surely ∷ Maybe ∷ Never ∷ []) ≡ true ∷ false ∷ false ∷ [])
worked-counts = (refl, refl)
