-- The universe of numbers in which it is searched whether source packages can be built: after the
-- rows of the packages of an index there are those of the source packages. Debian Policy 7.7; the
-- rows are this project's own.
use Rattle.std.specs.Prelude.{◌≡◌, ℕ, List, [], ◌∷◌, ◌++◌, map, codes, refl}
use Rattle.deb_field.specs.Values.{ValueMeaning}
use Rattle.deb_control.specs.Documents.{Meaning}
use Rattle.deb_control.specs.Pairs.{Pairwise}
use Rattle.deb_control.specs.ValueFiles.{ValueEntries}
use Rattle.deb_solve.specs.declared.universe.Universe.{Universe}
use Rattle.deb_unmet.specs.declared.asked.Strength.TheVariants.{Depends}
use Rattle.deb_install.specs.Buildable.{build_excludes, build_rows, with_ee}
use Rattle.deb_install.specs.Building.{AreNumbersOf, Grows}
use Rattle.deb_install.specs.Passing.{for_amd64, needing}
use Rattle.deb_install.specs.Terms.{healthy_alone}
use Rattle.deb_install.specs.Universes.{AreKnownIn, AreUniverseRows, Setting, setting}
use Rattle.deb_install.specs.declared.readings.Readings.TheVariants.{Every}
use Rattle.deb_install.specs.declared.universe.Building.{Building}

-- the rows of groups that a source package needs, and the numbers of the packages that it excludes
abbrev pub built_in : Setting → ValueEntries ValueMeaning → List (List ℕ)
built_in s values = build_rows s.readings s.environment s.packages values

abbrev pub barred_in : Setting → ValueEntries ValueMeaning → List ℕ
barred_in s values = build_excludes s.readings s.environment s.packages values

-- Rows of a source package with these values were appended.
pub record AppendsSource (s : Setting) (values : ValueEntries ValueMeaning) (old new : Building) :
    Type 0 where
  pub grows : Grows old.groups.rows new.groups.rows
  pub row : List ℕ
  pub needs : new.needs ≡ old.needs ++ row ∷ []
  pub are : AreNumbersOf new.groups.rows row (built_in s values)
  pub excludes : new.excludes ≡ old.excludes ++ barred_in s values ∷ []
  pub known : AreKnownIn s new

-- Rows of these source packages were appended, in their order.
pub record AppendsSources (s : Setting) (sources : Meaning) (old new : Building) : Type 0 where
  pub grows : Grows old.groups.rows new.groups.rows
  pub rows : List (List ℕ)
  pub needs : new.needs ≡ old.needs ++ rows
  pub are : Pairwise (AreNumbersOf new.groups.rows) rows (map (built_in s) sources)
  pub excludes : new.excludes ≡ old.excludes ++ map (barred_in s) sources
  pub known : AreKnownIn s new

-- After the rows of the packages there are those of the source packages.
pub record AreRowsWith (s : Setting) (sources : Meaning)
    (needs groups excludes : List (List ℕ)) : Type 0 where
  pub first_needs : List (List ℕ)
  pub first_excludes : List (List ℕ)
  pub packages : AreUniverseRows s s.values first_needs groups first_excludes
  pub rows : List (List ℕ)
  pub needed : needs ≡ first_needs ++ rows
  pub are : Pairwise (AreNumbersOf groups) rows (map (built_in s) sources)
  pub excluded : excludes ≡ first_excludes ++ map (barred_in s) sources

abbrev pub IsUniverseWith : Setting → Meaning → Universe → Type 0
IsUniverseWith s sources u = AreRowsWith s sources u.needs u.groups u.excludes

abbrev alone : Setting
alone = setting Every (healthy_alone Depends) for_amd64 with_ee []

worked-rows : (built_in alone (needing (codes "Build-Depends"))
    ≡ (2 ∷ []) ∷ (1 ∷ []) ∷ [])
    × (barred_in alone (needing (codes "Build-Conflicts")) ≡ 1 ∷ [])
worked-rows = (refl, refl)
