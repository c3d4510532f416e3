-- The universe of numbers in which a set is searched, for packages of an index. The number 0 is no
-- package, so each number is that of the index. This project's own.
use Rattle.std.specs.Prelude.{◌≡◌, ℕ, ◌+◌, true, List, [], ◌∷◌, ◌++◌, map, Some, length, codes, refl}
use Rattle.std.specs.List.{slice_get, slice_index_or}
use Rattle.std.proofs.Common.{ap}
use Rattle.deb_base.specs.Literals.{lent}
use Rattle.deb_relation.specs.Applying.{Environment}
use Rattle.deb_relation.specs.Environments.{environment_of}
use Rattle.deb_relation.specs.Views.{names_of}
use Rattle.deb_field.specs.Values.{ValueMeaning, NameMeans, ArchitectureMeans, FlagMeans}
use Rattle.deb_field.specs.declared.flag.Flag.TheVariants.{Yes}
use Rattle.deb_control.specs.Documents.{Meaning}
use Rattle.deb_control.specs.ValueFiles.{ValueEntries}
use Rattle.deb_index.specs.Indexes.{packages_of}
use Rattle.deb_index.specs.Listed.{Listed}
use Rattle.deb_unmet.specs.declared.asked.Strength.TheVariants.{Depends}
use Rattle.deb_solve.specs.declared.universe.Universe.{Universe}
use Rattle.deb_install.specs.Building.{AreNumbersOf, Grows}
use Rattle.deb_install.specs.Known.{AreKnown, IsEmpty, Knows}
use Rattle.deb_install.specs.Passing.{for_amd64, needing, of, perhaps_needing}
use Rattle.deb_install.specs.Rows.{exclusion_row, member_rows}
use Rattle.deb_install.specs.Terms.{Terms, essential_rows, healthy_alone, terms}
use Rattle.deb_install.specs.declared.needs.Needing.{Needing}
use Rattle.deb_install.specs.declared.readings.Readings.{Readings}
use Rattle.deb_install.specs.declared.readings.Readings.TheVariants.{Every, One}
use Rattle.deb_install.specs.declared.universe.Building.{Building}
use Rattle.deb_install.specs.declared.universe.Listing.{Listing}

-- In which readings, by which terms, for which environment, and which packages are listed, with
-- which values.
pub record Setting : Type 0 where
  pub readings : Readings
  pub terms : Terms
  pub environment : Environment
  pub packages : List Listed
  pub values : Meaning

abbrev pub setting : Readings → Terms → Environment → List Listed → Meaning → Setting
setting readings t environment packages values = record {
  readings = readings;
  terms = t;
  environment = environment;
  packages = packages;
  values = values;
}

-- what a listing of packages with these values asks
abbrev pub terms_in : Listing → Terms
terms_in listing = terms listing.strength listing.essential (names_of listing.without.now)

abbrev pub setting_of : Listing → Meaning → Setting
setting_of listing values =
    setting listing.readings (terms_in listing) (environment_of listing.environment.now)
    (packages_of listing.index.now) values

-- the rows that each package needs
abbrev pub shared_rows : Setting → List (List ℕ)
shared_rows s = essential_rows s.terms s.environment.native s.packages s.values

-- the rows of groups that a package needs, and the numbers of the packages that it excludes
abbrev pub needed_in : Setting → ValueEntries ValueMeaning → List (List ℕ)
needed_in s values = member_rows s.readings s.terms s.environment s.packages s.values values

abbrev pub excluded_in : Setting → ℕ → ValueEntries ValueMeaning → List ℕ
excluded_in s number values =
    exclusion_row s.readings s.terms.strength s.environment s.packages number values

-- What is known of groups is right in the environment that is set.
abbrev pub AreKnownIn : Setting → Building → Type 0
AreKnownIn s building =
    AreKnown s.readings s.environment s.packages building.groups.rows building.known

-- A row of the numbers of these rows was appended, and new rows to the groups.
pub record AppendsNeeds (needing : Needing) (environment : Environment) (old new : Building)
    (rows : List (List ℕ)) : Type 0 where
  pub grows : Grows old.groups.rows new.groups.rows
  pub row : List ℕ
  pub needs : new.needs ≡ old.needs ++ row ∷ []
  pub are : AreNumbersOf new.groups.rows row rows
  pub knows : Knows needing environment new.groups.rows new.known

-- Rows of the package with this number and these values were appended.
pub record AppendsPackage (s : Setting) (number : ℕ) (values : ValueEntries ValueMeaning)
    (old new : Building) : Type 0 where
  pub grows : Grows old.groups.rows new.groups.rows
  pub row : List ℕ
  pub needs : new.needs ≡ old.needs ++ row ∷ []
  pub are : AreNumbersOf new.groups.rows row (needed_in s values)
  pub excludes : new.excludes ≡ old.excludes ++ excluded_in s number values ∷ []
  pub known : AreKnownIn s new

-- There are the empty rows of the number 0 alone.
pub record AreFirstRows (building : Building) : Type 0 where
  pub needs : building.needs ≡ [] ∷ []
  pub groups : building.groups.rows ≡ []
  pub excludes : building.excludes ≡ [] ∷ []
  pub known : IsEmpty building.known

-- After an empty row of the number 0 there is a row for each of the first packages, which have
-- these values: the numbers of the groups that it needs, and those of the packages that it
-- excludes.
pub record AreUniverseRows (s : Setting) (meaning : Meaning)
    (needs groups excludes : List (List ℕ)) : Type 0 where
  pub needs_each : length needs ≡ length meaning + 1
  pub excludes_each : length excludes ≡ length meaning + 1
  pub none_needed : slice_index_or needs 0 [] ≡ []
  pub none_excluded : slice_index_or excludes 0 [] ≡ []
  pub needed : (k : ℕ) (values : ValueEntries ValueMeaning) → slice_get meaning k ≡ Some values
      → AreNumbersOf groups (slice_index_or needs (k + 1) []) (needed_in s values)
  pub excluded : (k : ℕ) (values : ValueEntries ValueMeaning) → slice_get meaning k ≡ Some values
      → slice_index_or excludes (k + 1) [] ≡ excluded_in s (k + 1) values

-- These are the rows of the first packages, and what is known of groups is right.
pub record IsBuilt (s : Setting) (meaning : Meaning) (building : Building) : Type 0 where
  pub rows : AreUniverseRows s meaning building.needs building.groups.rows building.excludes
  pub known : AreKnownIn s building

abbrev pub IsUniverseOf : Setting → Universe → Type 0
IsUniverseOf s u = AreUniverseRows s s.values u.needs u.groups u.excludes

-- bb, of which there are two, and ee, which a field of bb has
abbrev packages : List Listed
packages = of (codes "bb") ∷ of (codes "ee") ∷ of (codes "bb") ∷ []

-- where nothing but health is asked
abbrev alone : Readings → Setting
alone readings = setting readings (healthy_alone Depends) for_amd64 packages []

worked-setting : alone One ≡ record {
  readings = One;
  terms = healthy_alone Depends;
  environment = for_amd64;
  packages = packages;
  values = [];
}
worked-setting = refl

-- of any listing that leaves aa out
worked-listing : (listing : Listing) → listing.without.now ≡ lent (codes "aa") ∷ []
    → (terms_in listing).without ≡ codes "aa" ∷ []
worked-listing listing = ap names_of

worked-setting_of : (listing : Listing) → listing.without.now ≡ lent (codes "aa") ∷ []
    → (setting_of listing []).terms.without ≡ codes "aa" ∷ []
worked-setting_of listing = ap names_of

-- ee is essential
abbrev ee : ValueEntries ValueMeaning
ee =
    (codes "Architecture", ArchitectureMeans (codes "all"))
    ∷ (codes "Essential", FlagMeans Yes)
    ∷ (codes "Package", NameMeans (codes "ee")) ∷ []

worked-shared : (shared_rows (alone One) ≡ [])
    × (shared_rows (setting One (terms Depends true []) for_amd64 packages ([] ∷ ee ∷ [] ∷ []))
    ≡ (2 ∷ []) ∷ [])
worked-shared = (refl, refl)

worked-needed : map (λ readings. needed_in (alone readings)
    (perhaps_needing (codes "Depends"))) (Every ∷ One ∷ []) ≡ ((2 ∷ []) ∷ []) ∷ [] ∷ []
worked-needed = refl

worked-excluded : map (λ number. excluded_in (alone One) number
    (needing (codes "Breaks"))) (1 ∷ 3 ∷ []) ≡ (2 ∷ 3 ∷ []) ∷ (2 ∷ []) ∷ []
worked-excluded = refl
