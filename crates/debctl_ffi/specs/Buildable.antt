-- What is answered to a program in C of which source packages can't be built: Debian Policy 4.2 and
-- 7.7. The order of refusals and the form of the lines are this project's own.
use Rattle.std.specs.Prelude.{◌≡◌, ◌⊎◌, ℕ, ◌≤◌, IsTrue, Bool, true, false, List, [], ◌∷◌, map, length, codes, Some, refl}
use Rattle.std.proofs.Common.{arith, inl, inr}
use Rattle.deb_base.specs.declared.refusal.Refusal.{Refusal}
use Rattle.deb_relation.specs.Targets.{is_environment}
use Rattle.deb_control.specs.Documents.{refusal_of}
use Rattle.deb_index.specs.Listed.{Listed}
use Rattle.deb_index.specs.declared.members.Members.TheVariants.{All}
use Rattle.deb_unmet.specs.Files.{is_nothing}
use Rattle.deb_unmet.specs.declared.asked.Strength.TheVariants.{Depends}
use Rattle.deb_unmet.specs.declared.asking.Summary.{Summary}
use Rattle.deb_install.specs.BuildFiles.{AsksBuildable, BuildAnswers}
use Rattle.deb_install.specs.SourceKinds.{doc_of}
use Rattle.deb_install.specs.SourceReasonLines.{source_lines_with}
use Rattle.deb_install.specs.Terms.{Terms, terms}
use Rattle.deb_install.specs.declared.source_kind.SourceKind.{SourceKind}
use Rattle.deb_install.specs.declared.source_kind.SourceKind.TheVariants.{Sources, Source}
use Rattle.debctl_ffi.specs.Answers.{counting, plain, refusing}
use Rattle.debctl_ffi.specs.Documents.{kind_number}
use Rattle.debctl_ffi.specs.Unmet.{Asker, IsGoodAsker, IsRefusedAsker, asker, environment_in, is_set}
use Rattle.debctl_ffi.specs.declared.answer.Answer.{Answer}

-- ---- what is asked

-- The number asks for source packages of this kind, or for none.
abbrev pub AsksSources : ℕ → SourceKind → Type 0
AsksSources number kind = number ≡ kind_number (doc_of kind)

abbrev pub AsksNoSources : ℕ → Type 0
AsksNoSources number = (number ≡ 0) ⊎ (number ≡ 1) ⊎ (4 ≤ number)

numbers_of_sources : map (λ kind. kind_number (doc_of kind)) (Source ∷ Sources ∷ []) ≡ 2 ∷ 3 ∷ []
numbers_of_sources = refl

sources_asked : AsksSources 2 Source × AsksSources 3 Sources
sources_asked = (refl, refl)

no_sources_asked : AsksNoSources 0 × AsksNoSources 1 × AsksNoSources 4 × AsksNoSources 255
no_sources_asked = (inl refl, inr (inl refl), inr (inr (omega arith)), inr (inr (omega arith)))

-- what is asked of a set of packages, and whether reasons follow the lines
pub record BuildSearch : Type 0 where
  pub terms : Terms
  pub reasons : Bool

-- by the numbers of C, and the names that are left out
abbrev pub build_search : ℕ → ℕ → List (List ℕ) → BuildSearch
build_search essential reasons without =
    record { terms = terms Depends (is_set essential) without; reasons = is_set reasons }

-- the same, asked of source packages of this kind for an environment
abbrev pub asks_built : BuildSearch → Asker → SourceKind → AsksBuildable
asks_built search by kind = record {
  members = All;
  index = by.index;
  kind = kind;
  terms = search.terms;
  environment = environment_in by;
  reasons = search.reasons;
}

worked-search : (build_search 0 0 [] ≡ record { terms = terms Depends false []; reasons = false })
    × (build_search 255 2 (codes "bb" ∷ [])
    ≡ record { terms = terms Depends true (codes "bb" ∷ []); reasons = true })
worked-search = (refl, refl)

worked-asks : asks_built (build_search 0 1 []) (asker (codes "amd64") [] (codes "x")) Sources
    ≡ record {
      members = All;
      index = codes "x";
      kind = Sources;
      terms = terms Depends false [];
      environment = environment_in (asker (codes "amd64") [] (codes "x"));
      reasons = true;
    }
worked-asks = refl

-- The number asks for source packages, of which this holds.
pub record OfSources (number : ℕ) (Says : SourceKind → Type 0) : Type 0 where
  pub kind : SourceKind
  pub asks : AsksSources number kind
  pub says : Says kind

-- ---- refusals

-- The target, the profiles and the index are good, and the file is refused.
pub record IsRefusedSources (by : Asker) (text : List ℕ) (answer : Answer) (kind : SourceKind) :
    Type 0 where
  pub packages : List Listed
  pub good : IsGoodAsker by packages
  pub refusal : Refusal
  pub refused : refusal_of (doc_of kind) text ≡ Some refusal
  pub is : answer ≡ refusing 3 refusal

-- ---- lines

-- Both files are accepted, these are the lines of true answers of the source packages, with their
-- reasons if these are asked, and the summary says how many source packages there are and whether
-- there is no line.
pub record HasSourceLines (asks : AsksBuildable) (text : List ℕ) (summary : Summary)
    (bytes : List ℕ) : Type 0 where
  pub answers : BuildAnswers asks text
  pub count : length answers.sources ≡ summary.paragraphs
  pub lines : bytes ≡ source_lines_with asks.reasons asks.kind answers.answer answers.reasons
      answers.packages answers.sources
  pub is_empty : summary.is_empty ≡ is_nothing bytes

-- ---- answers

-- The environment is good, and these are the lines of the file for it, of which there is none, or
-- is one; the answer has the number of the source packages.
pub record IsBuilt (search : BuildSearch) (by : Asker) (text : List ℕ) (empty : Bool)
    (told : Answer) (bytes : List ℕ) (kind : SourceKind) : Type 0 where
  pub environment : IsTrue (is_environment by.target by.profiles)
  pub summary : Summary
  pub has : HasSourceLines (asks_built search by kind) text summary bytes
  pub empty_is : summary.is_empty ≡ empty
  pub count : told.count ≡ summary.paragraphs

-- There is no line, or there is one.
abbrev pub ListsSources : ℕ → BuildSearch → Asker → List ℕ → Answer → List ℕ → Type 0
ListsSources number search by text told bytes =
    ((told ≡ counting 0 told.count) × OfSources number (IsBuilt search by text true told bytes))
    ⊎ ((told ≡ counting 1 told.count) × OfSources number (IsBuilt search by text false told bytes))

-- The environment or the index is refused; or they are accepted, and the file is refused; or memory
-- is out; or the number asks for no source packages.
abbrev pub BuildFails : ℕ → Asker → List ℕ → Answer → Type 0
BuildFails number by text answer =
    ((answer.status ≡ 2) × OfSources number (λ kind. IsRefusedAsker by answer))
    ⊎ ((answer.status ≡ 3) × OfSources number (IsRefusedSources by text answer))
    ⊎ (answer ≡ plain 5)
    ⊎ ((answer ≡ plain 6) × AsksNoSources number)
