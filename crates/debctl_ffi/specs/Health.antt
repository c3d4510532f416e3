-- What is answered to a program in C of a set of packages: Debian Policy 7.2 to 7.5. The order of
-- refusals and the form of the lines are this project's own.
use Rattle.std.specs.Prelude.{◌≡◌, ◌⊎◌, ℕ, ◌≤◌, Bool, true, false, IsTrue, List, [], ◌∷◌, map, length, Some, refl}
use Rattle.std.specs.List.{filter}
use Rattle.std.proofs.Common.{arith, inl, inr}
use Rattle.deb_base.specs.declared.refusal.Refusal.{Refusal}
use Rattle.deb_relation.specs.Applying.{Environment}
use Rattle.deb_relation.specs.Targets.{is_environment}
use Rattle.deb_control.specs.Documents.{Accepted, Meaning, refusal_of}
use Rattle.deb_index.specs.Listed.{Listed}
use Rattle.deb_index.specs.Members.{ListsMembers, doc_of, has_values}
use Rattle.deb_index.specs.declared.members.Members.{Members}
use Rattle.deb_index.specs.declared.members.Members.TheVariants.{All, Installed}
use Rattle.deb_unmet.specs.Files.{is_nothing}
use Rattle.deb_unmet.specs.Own.{own_lines}
use Rattle.deb_unmet.specs.declared.asked.Strength.{Strength}
use Rattle.deb_unmet.specs.declared.asked.Strength.TheVariants.{Depends, Recommends}
use Rattle.deb_unmet.specs.declared.asking.Summary.{Summary}
use Rattle.deb_health.specs.Health.{asks_healthy}
use Rattle.debctl_ffi.specs.Answers.{counting, plain, refusing}
use Rattle.debctl_ffi.specs.Documents.{kind_number}
use Rattle.debctl_ffi.specs.Unmet.{Asker, RefusesEnvironment, environment_in}
use Rattle.debctl_ffi.specs.declared.answer.Answer.{Answer}

-- ---- what is asked

-- which fields are asked: Recommends too, or not
abbrev pub strength_of : Bool → Strength
strength_of true = Recommends
strength_of false = Depends

strengths : map strength_of (false ∷ true ∷ []) ≡ Depends ∷ Recommends ∷ []
strengths = refl

-- The number asks for this set: all packages of an index, or the installed ones of a status file.
abbrev pub AsksSet : ℕ → Members → Type 0
AsksSet kind members = kind ≡ kind_number (doc_of members)

-- The number asks for no set: it is that of another kind, or of no kind.
abbrev pub AsksNoSet : ℕ → Type 0
AsksNoSet kind = (kind ≡ 0) ⊎ (kind ≡ 2) ⊎ (kind ≡ 3) ⊎ (kind ≡ 4) ⊎ (6 ≤ kind)

numbers_of_sets : map (λ members. kind_number (doc_of members)) (All ∷ Installed ∷ [])
    ≡ 1 ∷ 5 ∷ []
numbers_of_sets = refl

sets_asked : AsksSet 1 All × AsksSet 5 Installed
sets_asked = (refl, refl)

no_sets_asked : AsksNoSet 0 × AsksNoSet 2 × AsksNoSet 3 × AsksNoSet 4 × AsksNoSet 6
    × AsksNoSet 255
no_sets_asked = (
  inl refl,
  inr (inl refl),
  inr (inr (inl refl)),
  inr (inr (inr (inl refl))),
  inr (inr (inr (inr (omega arith)))),
  inr (inr (inr (inr (omega arith)))),
)

-- The number asks for a set, of which this holds.
pub record OfMembers (kind : ℕ) (Says : Members → Type 0) : Type 0 where
  pub members : Members
  pub asks : AsksSet kind members
  pub says : Says members

-- ---- refusals

-- The target is good, and the file of the set is refused.
pub record RefusesSetFile (members : Members) (by : Asker) (refusal : Refusal) : Type 0 where
  pub environment : IsTrue (is_environment by.target by.profiles)
  pub refused : refusal_of (doc_of members) by.index ≡ Some refusal

-- The target is refused; or it is good, and the file is refused.
abbrev pub RefusesSet : Members → Asker → Refusal → Type 0
RefusesSet members by refusal = RefusesEnvironment by refusal ⊎ RefusesSetFile members by refusal

pub record IsRefusedSet (members : Members) (by : Asker) (answer : Answer) : Type 0 where
  pub refusal : Refusal
  pub refused : RefusesSet members by refusal
  pub is : answer ≡ refusing 2 refusal

-- ---- lines

-- The file is accepted, these are its lines over the packages of its set, and the summary says how
-- many packages there are and whether there is no line.
pub record HasSetLines (members : Members) (strength : Strength) (environment : Environment)
    (file : List ℕ) (summary : Summary) (bytes : List ℕ) : Type 0 where
  pub packages : List Listed
  pub lists : ListsMembers members file packages
  pub meaning : Meaning
  pub accepted : Accepted (doc_of members) file meaning
  pub count : length (filter (has_values members) meaning) ≡ summary.paragraphs
  pub lines : bytes
      ≡ own_lines (asks_healthy members strength environment) packages file meaning
  pub is_empty : summary.is_empty ≡ is_nothing bytes

-- The target can be that of a set, and these are the lines of the file for it.
pub record IsOfSet (strength : Strength) (by : Asker) (members : Members) (summary : Summary)
    (bytes : List ℕ) : Type 0 where
  pub environment : IsTrue (is_environment by.target by.profiles)
  pub has : HasSetLines members strength (environment_in by) by.index summary bytes

-- ---- answers

-- These are the lines of a set, and there is none, or is one; the answer has the number of the
-- packages.
pub record IsToldOfSet (Lines : Members → Summary → List ℕ → Type 0) (empty : Bool) (told : Answer)
    (bytes : List ℕ) (members : Members) : Type 0 where
  pub summary : Summary
  pub of : Lines members summary bytes
  pub empty_is : summary.is_empty ≡ empty
  pub count : told.count ≡ summary.paragraphs

-- There is no line, or there is one. `Lines` says which lines are those of a set.
abbrev pub ListsSet : ℕ → (Members → Summary → List ℕ → Type 0) → Answer → List ℕ → Type 0
ListsSet kind Lines told bytes =
    ((told ≡ counting 0 told.count)
    × OfMembers kind (λ members. IsToldOfSet Lines true told bytes members))
    ⊎ ((told ≡ counting 1 told.count)
    × OfMembers kind (λ members. IsToldOfSet Lines false told bytes members))

-- The target or the file is refused; or memory is out; or the number asks for no set.
abbrev pub SetFails : ℕ → Asker → Answer → Type 0
SetFails kind by answer =
    ((answer.status ≡ 2) × OfMembers kind (λ members. IsRefusedSet members by answer))
    ⊎ (answer ≡ plain 5)
    ⊎ ((answer ≡ plain 6) × AsksNoSet kind)
