-- What is answered to a program in C of the relations of a file that nothing in an index meets:
-- Debian Policy 7.1, 7.2 and 7.7. The order of refusals and the form of the lines are this
-- project's own.
use Rattle.std.specs.Prelude.{◌≡◌, ◌⊎◌, ℕ, ◌≤◌, Bool, true, false, List, [], ◌∷◌, map, length, Some, IsTrue, IsFalse, not, ◌==◌, codes, refl}
use Rattle.deb_base.specs.declared.doc.Doc.TheVariants.{Packages}
use Rattle.deb_base.specs.declared.refusal.Refusal.{Refusal}
use Rattle.deb_base.specs.declared.version_text.VersionText.TheVariants.{Canonical}
use Rattle.deb_relation.specs.Applying.{Environment}
use Rattle.deb_relation.specs.Environments.{environment_with}
use Rattle.deb_relation.specs.Targets.{is_environment}
use Rattle.deb_control.specs.Documents.{Accepted, Meaning, refusal_of}
use Rattle.deb_index.specs.Listed.{Listed}
use Rattle.deb_index.specs.Listing.{ListsAll}
use Rattle.deb_index.specs.Questions.{bad_environment}
use Rattle.deb_unmet.specs.Asked.{doc_of, is_of_target, request_for}
use Rattle.deb_unmet.specs.Asking.{asks_of}
use Rattle.deb_unmet.specs.Files.{file_lines, is_nothing}
use Rattle.deb_unmet.specs.Scopes.{Scope, plain as plain_scope}
use Rattle.deb_unmet.specs.declared.asked.Asked.{Asked}
use Rattle.deb_unmet.specs.declared.asked.Asked.TheVariants as asked
use Rattle.deb_unmet.specs.declared.asked.SourcesAsked.TheVariants.{All, OfTarget}
use Rattle.deb_unmet.specs.declared.asked.Strength.TheVariants.{Depends, Recommends}
use Rattle.deb_unmet.specs.declared.asking.Summary.{Summary}
use Rattle.debctl_ffi.specs.Answers.{counting, plain, refusing}
use Rattle.debctl_ffi.specs.Documents.{kind_number}
use Rattle.debctl_ffi.specs.declared.answer.Answer.{Answer}

-- ---- what is asked

-- Recommends is asked too, which only binary packages have
abbrev pub asks_recommends : Asked → Bool
asks_recommends (asked.Packages Recommends) = true
asks_recommends (asked.Packages Depends) = false
asks_recommends (asked.Binary Recommends) = true
asks_recommends (asked.Binary Depends) = false
asks_recommends (asked.Sources which) = false
asks_recommends (asked.Source which) = false

-- source packages are asked that aren't built for the target
abbrev pub asks_all : Asked → Bool
asks_all (asked.Packages strength) = false
asks_all (asked.Binary strength) = false
asks_all (asked.Sources which) = not (is_of_target which)
asks_all (asked.Source which) = not (is_of_target which)

-- a number of C that says yes unless it is 0
abbrev pub is_set : ℕ → Bool
is_set n = not (n == 0)

numbers_of_c : map is_set (0 ∷ 1 ∷ 255 ∷ []) ≡ false ∷ true ∷ true ∷ []
numbers_of_c = refl

-- The numbers ask this: a kind, and whether Recommends is asked too. Of source packages those are
-- asked that are built for the target.
pub record IsAsked (kind : ℕ) (recommends : Bool) (asks : Asked) : Type 0 where
  pub kind_is : kind ≡ kind_number (doc_of asks)
  pub recommends_is : recommends ≡ asks_recommends asks
  pub of_target : asks_all asks ≡ false

-- The numbers ask nothing: no kind with relations has this number, or Recommends is asked of
-- sources.
abbrev pub AsksNothing : ℕ → Bool → Type 0
AsksNothing kind recommends = (4 ≤ kind) ⊎ ((2 ≤ kind) × IsTrue recommends)

all_asked : map asks_recommends
    (asked.Packages Depends ∷ asked.Packages Recommends ∷ asked.Binary Depends
    ∷ asked.Binary Recommends ∷ asked.Sources OfTarget ∷ asked.Source All ∷ [])
    ≡ false ∷ true ∷ false ∷ true ∷ false ∷ false ∷ []
all_asked = refl

of_target : map asks_all
    (asked.Packages Depends ∷ asked.Binary Recommends ∷ asked.Sources OfTarget ∷ asked.Sources All
    ∷ asked.Source OfTarget ∷ asked.Source All ∷ [])
    ≡ false ∷ false ∷ false ∷ true ∷ false ∷ true ∷ []
of_target = refl

-- a target architecture, the profiles that are active, and an index of packages
pub record Asker : Type 0 where
  pub target : List ℕ
  pub profiles : List (List ℕ)
  pub index : List ℕ

abbrev pub asker : List ℕ → List (List ℕ) → List ℕ → Asker
asker target profiles index =
    record { target = target; profiles = profiles; index = index }

abbrev pub environment_in : Asker → Environment
environment_in by = environment_with by.target by.profiles

environments : environment_in (asker (codes "amd64") (codes "nocheck" ∷ []) [])
    ≡ record { target = codes "amd64"; native = codes "amd64"; profiles = codes "nocheck" ∷ [] }
environments = refl

-- The environment is good, and the index is accepted, and lists these packages.
pub record IsGoodAsker (by : Asker) (packages : List Listed) : Type 0 where
  pub environment : IsTrue (is_environment by.target by.profiles)
  pub lists : ListsAll by.index packages

-- ---- refusals

-- The target or a profile is refused; or they are good, and the index is refused.
pub record RefusesEnvironment (by : Asker) (refusal : Refusal) : Type 0 where
  pub bad : IsFalse (is_environment by.target by.profiles)
  pub is : refusal ≡ bad_environment

pub record RefusesIndex (by : Asker) (refusal : Refusal) : Type 0 where
  pub environment : IsTrue (is_environment by.target by.profiles)
  pub refused : refusal_of Packages by.index ≡ Some refusal

abbrev pub RefusesAsker : Asker → Refusal → Type 0
RefusesAsker by refusal = RefusesEnvironment by refusal ⊎ RefusesIndex by refusal

pub record IsRefusedAsker (by : Asker) (answer : Answer) : Type 0 where
  pub refusal : Refusal
  pub refused : RefusesAsker by refusal
  pub is : answer ≡ refusing 2 refusal

-- These are good, and the file is refused.
pub record IsRefusedFile (asks : Asked) (by : Asker) (text : List ℕ) (answer : Answer) : Type 0
  where
    pub packages : List Listed
    pub good : IsGoodAsker by packages
    pub refusal : Refusal
    pub refused : refusal_of (doc_of asks) text ≡ Some refusal
    pub is : answer ≡ refusing 3 refusal

-- ---- lines

-- The file is accepted, these are its lines, and the summary says how many paragraphs it has and
-- whether there is no line.
pub record HasLines (asks : Asked) (environment : Environment) (scope : Scope)
    (text : List ℕ) (summary : Summary) (bytes : List ℕ) : Type 0 where
  pub meaning : Meaning
  pub accepted : Accepted (doc_of asks) text meaning
  pub count : length meaning ≡ summary.paragraphs
  pub lines : bytes
      ≡ file_lines (asks_of (request_for asks Canonical) environment scope) text meaning
  pub is_empty : summary.is_empty ≡ is_nothing bytes

-- ---- answers

-- The numbers ask something, of which this holds.
pub record OfAsked (kind : ℕ) (recommends : Bool) (Says : Asked → Type 0) : Type 0 where
  pub asks : Asked
  pub is_asked : IsAsked kind recommends asks
  pub says : Says asks

-- All are accepted, and these are the lines of the file, of which there is none, or is one; the
-- answer has the number of its paragraphs.
pub record IsUnmet (by : Asker) (text : List ℕ) (empty : Bool) (told : Answer) (bytes : List ℕ)
    (asks : Asked) : Type 0 where
  pub packages : List Listed
  pub good : IsGoodAsker by packages
  pub summary : Summary
  pub has : HasLines asks (environment_in by) (plain_scope packages) text summary bytes
  pub empty_is : summary.is_empty ≡ empty
  pub count : told.count ≡ summary.paragraphs

-- There is no line, or there is one. `by` is what asks, for the file of an index, and `Each` says
-- which files that is.
abbrev pub ListsUnmet : ℕ → Bool → (List ℕ → Asker) → ((List ℕ → Type 0) → Type 0) → List ℕ
    → Answer → List ℕ → Type 0
ListsUnmet kind recommends by Each text told bytes =
    ((told ≡ counting 0 told.count) × Each (λ index. OfAsked kind recommends
    (λ asks. IsUnmet (by index) text true told bytes asks)))
    ⊎ ((told ≡ counting 1 told.count) × Each (λ index. OfAsked kind recommends
    (λ asks. IsUnmet (by index) text false told bytes asks)))

-- The environment or the index is refused; or they are accepted, and the file is refused; or memory
-- is out; or the numbers ask nothing.
abbrev pub UnmetFails : ℕ → Bool → (List ℕ → Asker) → ((List ℕ → Type 0) → Type 0) → List ℕ
    → Answer → Type 0
UnmetFails kind recommends by Each text answer =
    ((answer.status ≡ 2) × Each (λ index. OfAsked kind recommends
    (λ asks. IsRefusedAsker (by index) answer)))
    ⊎ ((answer.status ≡ 3) × Each (λ index. OfAsked kind recommends
    (λ asks. IsRefusedFile asks (by index) text answer)))
    ⊎ (answer ≡ plain 5)
    ⊎ ((answer ≡ plain 6) × AsksNothing kind recommends)
