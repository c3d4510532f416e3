-- The rows of a group, alternative by alternative. Debian Policy 7.1; that each list is read by
-- itself is this project's own.
use Rattle.std.specs.Prelude.{◌≡◌, ℕ, Bool, true, false, cond, List, [], ◌∷◌, map, codes, refl}
use Rattle.deb_relation.specs.Applying.{Environment}
use Rattle.deb_relation.specs.Meaning.{Alternative}
use Rattle.deb_index.specs.Alternatives.{alone, with_list}
use Rattle.deb_index.specs.Listed.{Listed}
use Rattle.deb_unmet.specs.Readings.{applies_by, may, surely}
use Rattle.deb_unmet.specs.declared.applying.Applies.{Applies}
use Rattle.deb_unmet.specs.declared.applying.Applies.TheVariants.{Surely, Maybe, Never}
use Rattle.deb_install.specs.Passing.{for_amd64, of}
use Rattle.deb_install.specs.Rows.{candidates}
use Rattle.deb_install.specs.declared.readings.Readings.{Readings}
use Rattle.deb_install.specs.declared.readings.Readings.TheVariants.{Every, One}

-- An alternative that a package meets counts in every reading if it surely applies, and in one if
-- it may.
abbrev pub meets_by : Readings → Applies → Bool
meets_by Every applies = surely applies
meets_by One applies = may applies

abbrev pub candidates_if : Readings → Environment → List Listed → Alternative → List ℕ
candidates_if readings environment packages a =
    cond (meets_by readings (applies_by environment a)) (candidates environment packages a) []

abbrev pub rows_if_may : Environment → List Listed → Alternative → List (List ℕ)
rows_if_may environment packages a =
    cond (may (applies_by environment a)) (candidates environment packages a ∷ []) []

worked-meets : (map (meets_by Every) (Surely ∷ Maybe ∷ Never ∷ []) ≡ true ∷ false ∷ false ∷ [])
    × (map (meets_by One) (Surely ∷ Maybe ∷ Never ∷ []) ≡ true ∷ true ∷ false ∷ [])
worked-meets = (refl, refl)

-- ee alone, for any Linux architecture, which is read in both ways, and not for amd64
abbrev three : List Alternative
three =
    alone (codes "ee") ∷ with_list (codes "ee") false (codes "linux-any")
    ∷ with_list (codes "ee") false (codes "i386") ∷ []

worked-candidates : map (λ readings. map
    (candidates_if readings for_amd64 (of (codes "ee") ∷ [])) three) (Every ∷ One ∷ [])
    ≡ ((1 ∷ []) ∷ [] ∷ [] ∷ []) ∷ ((1 ∷ []) ∷ (1 ∷ []) ∷ [] ∷ []) ∷ []
worked-candidates = refl

worked-rows : map (rows_if_may for_amd64 (of (codes "ee") ∷ [])) three
    ≡ ((1 ∷ []) ∷ []) ∷ ((1 ∷ []) ∷ []) ∷ [] ∷ []
worked-rows = refl
