-- The rows of groups by the canonical texts of the groups, so that a text that was seen before is
-- looked up. This project's own.
use Rattle.std.specs.Prelude.{◌≡◌, ◌⊎◌, ℕ, true, false, List, [], ◌∷◌, codes, Some, refl}
use Rattle.std.specs.Str.{bytes_eq}
use Rattle.indexmap.specs.IndexMap.{get_by}
use Rattle.deb_relation.specs.Applying.{Environment}
use Rattle.deb_relation.specs.Environments.{environment_of}
use Rattle.deb_relation.specs.Meaning.{Group}
use Rattle.deb_index.specs.Alternatives.{alone, with_list}
use Rattle.deb_index.specs.CanonicalTexts.{OfGroup}
use Rattle.deb_index.specs.Indexes.{packages_of}
use Rattle.deb_index.specs.Listed.{Listed}
use Rattle.deb_install.specs.Building.{AppendsRows, AreNumbersOf}
use Rattle.deb_install.specs.Passing.{for_amd64, of}
use Rattle.deb_install.specs.Rows.{group_rows}
use Rattle.deb_install.specs.declared.known.Known.{Known}
use Rattle.deb_install.specs.declared.needs.Needing.{Needing}
use Rattle.deb_install.specs.declared.readings.Readings.{Readings}
use Rattle.deb_install.specs.declared.readings.Readings.TheVariants.{Every, One}

-- A text has a number.
abbrev pub HasNumber : Known → List ℕ → ℕ → Type 0
HasNumber known text number = get_by (λ key. bytes_eq text key.items) known.numbers ≡ Some number

abbrev pub IsEmpty : Known → Type 0
IsEmpty known = known.numbers.entries ≡ []

-- A text was given a number, and no other text.
abbrev pub Notes : List ℕ → ℕ → Known → Known → Type 0
Notes noted given old new = (text : List ℕ) (number : ℕ) → HasNumber new text number
    → HasNumber old text number ⊎ ((text ≡ noted) × (number ≡ given))

-- A group has one row, which has this number.
abbrev pub IsRowOf : Readings → Environment → List Listed → List (List ℕ) → ℕ → Group → Type 0
IsRowOf readings environment packages rows number group =
    AreNumbersOf rows (number ∷ []) (group_rows readings environment packages group)

-- Each known number is that of the only row of the groups with its text.
abbrev pub AreKnown : Readings → Environment → List Listed → List (List ℕ) → Known → Type 0
AreKnown readings environment packages rows known = (text : List ℕ) (number : ℕ)
    → HasNumber known text number → OfGroup text (IsRowOf readings environment packages rows number)

-- What is known is right in an environment, which is that of a package if groups are known in it.
pub record Knows (needing : Needing) (environment : Environment) (rows : List (List ℕ))
    (known : Known) : Type 0 where
  pub is : needing.is_usual ≡ true → environment_of needing.environment.now ≡ environment
  pub are : AreKnown needing.readings environment (packages_of needing.index.now) rows known

-- The numbers of these rows were appended to a list, and what is known stays right.
pub record AppendsKnown (needing : Needing) (environment : Environment) (old new : List (List ℕ))
    (known : Known) (before after : List ℕ) (rows : List (List ℕ)) : Type 0 where
  pub appends : AppendsRows old new before after rows
  pub knows : Knows needing environment new known

-- ee or bb, of which there are two packages: the second row alone is theirs
abbrev group : Group
group = alone (codes "ee") ∷ alone (codes "bb") ∷ []

abbrev packages : List Listed
packages = of (codes "bb") ∷ of (codes "ee") ∷ of (codes "bb") ∷ []

abbrev rows : List (List ℕ)
rows = (2 ∷ []) ∷ (2 ∷ 1 ∷ 3 ∷ []) ∷ []

-- ee, if it may be: in one reading no row is theirs
abbrev perhaps : Group
perhaps = with_list (codes "ee") false (codes "linux-any") ∷ []

worked-row : IsRowOf Every for_amd64 packages rows 1 group
    × IsRowOf Every for_amd64 packages rows 0 perhaps
    × (IsRowOf One for_amd64 packages rows 0 perhaps → ⊥)
worked-row = ((refl, tt), (refl, tt), λ none. none)
