-- Which source packages can be built: a healthy set has what each needs, and nothing that it
-- excludes. Debian Policy 4.2 (build-essential is implied) and 7.7.
use Rattle.std.specs.Prelude.{◌≡◌, ℕ, ◌&&◌, Bool, true, false, List, [], ◌∷◌, ◌++◌, map, codes, refl}
use Rattle.std.specs.List.{flat_map, list_all, list_any}
use Rattle.deb_relation.specs.Applying.{Environment}
use Rattle.deb_relation.specs.Meaning.{Group}
use Rattle.deb_field.specs.Values.{ValueMeaning}
use Rattle.deb_control.specs.Documents.{Meaning}
use Rattle.deb_control.specs.ValueFiles.{ValueEntries}
use Rattle.deb_index.specs.Alternatives.{with_qualifier}
use Rattle.deb_index.specs.Listed.{Listed}
use Rattle.deb_unmet.specs.Asked.{build_fields}
use Rattle.deb_install.specs.Installable.{is_healthy_by_terms}
use Rattle.deb_install.specs.Members.{IsHealthyByRows, members_of}
use Rattle.deb_install.specs.Passing.{fields_pass, fields_spare, for_amd64, group_passes, needing, of}
use Rattle.deb_install.specs.Rows.{excluded_by_fields, group_rows, rows_of_fields}
use Rattle.deb_install.specs.Terms.{Terms}
use Rattle.deb_install.specs.declared.readings.Readings.{Readings}
use Rattle.deb_install.specs.declared.readings.Readings.TheVariants.{Every}

abbrev pub implied_groups : List Group
implied_groups = (with_qualifier (codes "build-essential") (codes "native") ∷ []) ∷ []

abbrev pub conflict_fields : List (List ℕ)
conflict_fields =
    codes "Build-Conflicts" ∷ codes "Build-Conflicts-Arch" ∷ codes "Build-Conflicts-Indep" ∷ []

-- The set has what the source package needs: build-essential, and what its fields say.
abbrev pub can_build : Readings → Environment → List Listed → ValueEntries ValueMeaning → Bool
can_build readings environment packages values =
    list_all (group_passes readings environment packages) implied_groups
    && fields_pass readings environment packages values build_fields

-- It has no package that the source package excludes. That one has no name among binary packages.
abbrev pub may_build : Readings → Environment → List Listed → ValueEntries ValueMeaning → Bool
may_build readings environment packages values =
    fields_spare readings environment environment.native [] packages values conflict_fields

-- A source package with these values can be built: by a healthy set of the listed packages that is
-- as the terms ask.
pub record IsBuildable (readings : Readings) (t : Terms) (environment : Environment)
    (packages : List Listed) (meaning : Meaning) (values : ValueEntries ValueMeaning) : Type 0
  where
    pub set : ℕ → Bool
    pub healthy : is_healthy_by_terms readings t environment packages meaning set ≡ true
    pub can : can_build readings environment (members_of set packages) values ≡ true
    pub may : may_build readings environment (members_of set packages) values ≡ true

-- its rows, and the numbers that it excludes
abbrev pub build_rows : Readings → Environment → List Listed → ValueEntries ValueMeaning
    → List (List ℕ)
build_rows readings environment packages values =
    flat_map (group_rows readings environment packages) implied_groups
    ++ rows_of_fields readings environment packages values build_fields

abbrev pub build_excludes : Readings → Environment → List Listed → ValueEntries ValueMeaning
    → List ℕ
build_excludes readings environment packages values =
    excluded_by_fields readings environment environment.native [] packages values conflict_fields

-- Some set is healthy by rows, has a number of each of these rows and none that is excluded.
pub record HasBuildSet (count : ℕ) (needs : ℕ → List (List ℕ)) (excludes : ℕ → List ℕ)
    (rows : List (List ℕ)) (excluded : List ℕ) : Type 0 where
  pub set : ℕ → Bool
  pub healthy : IsHealthyByRows count needs excludes set
  pub abundance : list_all (list_any set) rows ≡ true
  pub peace : list_any set excluded ≡ false

-- with build-essential, and ee in a field, perhaps
abbrev pub toolchain : List Listed
toolchain = of (codes "build-essential") ∷ []

abbrev pub with_ee : List Listed
with_ee = of (codes "ee") ∷ toolchain

worked-needs : (can_build Every for_amd64 [] [] ≡ false)
    × (can_build Every for_amd64 toolchain [] ≡ true)
    × (map (λ field. can_build Every for_amd64 toolchain (needing field))
    (codes "Build-Depends" ∷ codes "Build-Depends-Arch" ∷ codes "Build-Depends-Indep"
    ∷ codes "Depends" ∷ []) ≡ false ∷ false ∷ false ∷ true ∷ [])
    × (can_build Every for_amd64 with_ee (needing (codes "Build-Depends")) ≡ true)
worked-needs = (refl, refl, refl, refl)

worked-excludes : map (λ field. may_build Every for_amd64 with_ee (needing field))
    (codes "Build-Conflicts" ∷ codes "Build-Conflicts-Arch" ∷ codes "Build-Conflicts-Indep"
    ∷ codes "Conflicts" ∷ []) ≡ false ∷ false ∷ false ∷ true ∷ []
worked-excludes = refl

worked-rows : (build_rows Every for_amd64 with_ee (needing (codes "Build-Depends"))
    ≡ (2 ∷ []) ∷ (1 ∷ []) ∷ [])
    × (build_excludes Every for_amd64 with_ee (needing (codes "Build-Conflicts-Indep"))
    ≡ 1 ∷ [])
worked-rows = (refl, refl)
