-- Readings of a group: what each says of it. Debian Policy 7.1 and 11.1; that each list is read by
-- itself is this project's own.
use Rattle.std.specs.Prelude.{◌≡◌, ℕ, Bool, true, false, not, cond, ◌&&◌, ◌||◌, List, [], ◌∷◌, map, Option, Some, None, codes, refl}
use Rattle.std.specs.Str.{bytes_eq}
use Rattle.std.specs.List.{list_any}
use Rattle.deb_relation.specs.Applying.{Environment, formula_applies}
use Rattle.deb_relation.specs.Meaning.{Alternative, Group}
use Rattle.deb_index.specs.Alternatives.{alone, with_list}
use Rattle.deb_index.specs.Listed.{Listed}
use Rattle.deb_index.specs.declared.verdict.Verdict.{Verdict}
use Rattle.deb_index.specs.declared.verdict.Verdict.TheVariants.{Ignored, Met, Unmet}
use Rattle.deb_version.specs.Places.{version_in}
use Rattle.deb_unmet.specs.Readings.{applies_by, is_open, is_reading}
use Rattle.deb_unmet.specs.Troubles.{is_met}

-- A reading of a group says of each alternative whether it applies.
abbrev pub is_group_reading : Environment → Group → List Bool → Bool
is_group_reading environment [] [] = true
is_group_reading environment [] (applies ∷ reading) = false
is_group_reading environment (a ∷ group) [] = false
is_group_reading environment (a ∷ group) (applies ∷ reading) =
    is_reading (applies_by environment a) applies && is_group_reading environment group reading

-- some alternative applies, and some package meets one that applies
abbrev pub some_applies : List Bool → Bool
some_applies [] = false
some_applies (applies ∷ reading) = applies || some_applies reading

abbrev pub some_met : Environment → List Listed → Group → List Bool → Bool
some_met environment packages [] reading = false
some_met environment packages (a ∷ group) [] = false
some_met environment packages (a ∷ group) (applies ∷ reading) =
    (applies && is_met environment packages a) || some_met environment packages group reading

-- The verdict by a reading: ignored if no alternative applies, met if a package meets one that
-- applies, else unmet.
abbrev pub verdict_by : Environment → List Listed → Group → List Bool → Verdict
verdict_by environment packages group reading =
    cond (some_applies reading) (cond (some_met environment packages group reading) Met Unmet)
    Ignored

-- Some reading gives such a verdict, and every one does.
pub record SomeReading (environment : Environment) (packages : List Listed) (group : Group)
    (P : Verdict → Type 0) : Type 0 where
  pub reading : List Bool
  pub is : is_group_reading environment group reading ≡ true
  pub verdict : P (verdict_by environment packages group reading)

abbrev pub EachReading : Environment → List Listed → Group → (Verdict → Type 0) → Type 0
EachReading environment packages group P =
    (reading : List Bool) → is_group_reading environment group reading ≡ true
    → P (verdict_by environment packages group reading)

-- What the names in lists mean, as far as the target: its own name holds it, a wildcard or another
-- name with a hyphen may, and no other name does.
pub record IsMeaning (target : List ℕ) (holds : List ℕ → Bool) : Type 0 where
  pub own : holds target ≡ true
  pub closed : (name : List ℕ) → is_open name ≡ false → holds name ≡ bytes_eq name target

-- the reading by a meaning of the names
abbrev pub list_applies_in : (List ℕ → Bool) → Option (Bool × List (List ℕ)) → Bool
list_applies_in holds None = true
list_applies_in holds (Some list) =
    cond list.0 (not (list_any holds list.1)) (list_any holds list.1)

abbrev pub applies_in : (List ℕ → Bool) → Environment → Alternative → Bool
applies_in holds environment a =
    formula_applies a.formula environment.profiles && list_applies_in holds a.architectures

abbrev pub verdict_in : (List ℕ → Bool) → Environment → List Listed → Group → Verdict
verdict_in holds environment packages group =
    verdict_by environment packages group (map (applies_in holds environment) group)

-- For amd64, over aa for amd64 alone: aa [linux-any] | bb [i386] | cc has two readings.
abbrev environment : Environment
environment = record { target = codes "amd64"; native = codes "amd64"; profiles = [] }

abbrev packages : List Listed
packages =
    record {
      name = codes "aa";
      version = version_in (codes "1");
      architecture = codes "amd64";
      multi_arch = None;
      provisions = [];
    } ∷ []

abbrev group : Group
group =
    with_list (codes "aa") false (codes "linux-any") ∷ with_list (codes "bb") false (codes "i386")
    ∷ alone (codes "cc") ∷ []

worked-readings : map (is_group_reading environment group)
    ((true ∷ false ∷ true ∷ []) ∷ (false ∷ false ∷ true ∷ []) ∷ (true ∷ true ∷ true ∷ [])
    ∷ (true ∷ false ∷ false ∷ []) ∷ (true ∷ false ∷ []) ∷ (true ∷ false ∷ true ∷ true ∷ []) ∷ [])
    ≡ true ∷ true ∷ false ∷ false ∷ false ∷ false ∷ []
worked-readings = refl

worked-verdicts : map (verdict_by environment packages group)
    ((true ∷ false ∷ true ∷ []) ∷ (false ∷ false ∷ true ∷ []) ∷ (false ∷ false ∷ false ∷ []) ∷ [])
    ≡ Met ∷ Unmet ∷ Ignored ∷ []
worked-verdicts = refl

worked-parts : (some_applies [] ≡ false) × (some_applies (false ∷ true ∷ []) ≡ true)
    × (some_met environment packages group [] ≡ false)
    × (some_met environment packages group (true ∷ true ∷ true ∷ []) ≡ true)
    × (some_met environment packages group (false ∷ true ∷ true ∷ []) ≡ false)
worked-parts = (refl, refl, refl, refl, refl)

-- where linux-any holds amd64, and where it doesn't
worked-meanings : (verdict_in (λ name. true) environment packages group ≡ Met)
    × (verdict_in (λ name. bytes_eq name (codes "amd64")) environment packages group ≡ Unmet)
    × (list_applies_in (λ name. true) None ≡ true)
    × (list_applies_in (λ name. true) (Some (true, codes "linux-any" ∷ [])) ≡ false)
    × (list_applies_in (λ name. false) (Some (true, codes "linux-any" ∷ [])) ≡ true)
worked-meanings = (refl, refl, refl, refl, refl)

-- Two meanings of the names for amd64: only the target's own name is the target, and each open name
-- is as well.
worked-own_name : IsMeaning (codes "amd64") (λ name. bytes_eq name (codes "amd64"))
worked-own_name = record { own = refl; closed = λ name e. refl }

worked-open_names : IsMeaning (codes "amd64")
    (λ name. cond (is_open name) true (bytes_eq name (codes "amd64")))
worked-open_names =
    record {
      own = refl;
      closed = λ name e i. cond (e i) true (bytes_eq name (codes "amd64"));
    }
