-- The reasons that facts of a universe with source packages say, and how the lines with them are
-- appended. This project's own.
use Rattle.std.specs.Prelude.{◌≡◌, ℕ, ◌+◌, ◌-◌, ◌==◌, Bool, true, false, cond, List, [], ◌∷◌, ◌++◌, map, get_or, length, codes, refl}
use Rattle.std.specs.Fmt.{digits}
use Rattle.std.specs.List.{flat_map}
use Rattle.std.proofs.Common.{ap}
use Rattle.deb_base.specs.Literals.{lent}
use Rattle.deb_relation.specs.Applying.{Environment}
use Rattle.deb_relation.specs.Meaning.{Group}
use Rattle.deb_relation.specs.Texts.{group_text}
use Rattle.deb_relation.specs.Views.{names_of}
use Rattle.deb_field.specs.Values.{ValueMeaning, NameMeans, RelationMeans, VersionMeans}
use Rattle.deb_control.specs.Documents.{Meaning}
use Rattle.deb_control.specs.Pairs.{Pairwise}
use Rattle.deb_control.specs.ValueFiles.{ValueEntries}
use Rattle.deb_index.specs.Alternatives.{alone, with_list, with_qualifier}
use Rattle.deb_index.specs.Listed.{Listed}
use Rattle.deb_solve.specs.Health.{row}
use Rattle.deb_solve.specs.Reasons.{excluded, needed}
use Rattle.deb_solve.specs.declared.facts.Fact.{Fact}
use Rattle.deb_solve.specs.declared.facts.Fact.TheVariants as facts
use Rattle.deb_solve.specs.declared.universe.Universe.{Universe}
use Rattle.deb_solve.specs.declared.verdict.Verdict.{Verdict}
use Rattle.deb_unmet.specs.declared.asked.Strength.TheVariants.{Depends}
use Rattle.deb_version.specs.Places.{version_in}
use Rattle.deb_install.specs.Answers.{answer_at}
use Rattle.deb_install.specs.Explaining.{Explain, HoldsFor, reason_of, sure_groups}
use Rattle.deb_install.specs.KeptSources.{HoldsSource}
use Rattle.deb_install.specs.Passing.{for_amd64, of}
use Rattle.deb_install.specs.Reasons.{Excludes, IsLeftOut}
use Rattle.deb_install.specs.SourceAnswers.{AreSourceAnswers, AreSourceVerdicts}
use Rattle.deb_install.specs.SourceReasonLines.{source_lines_with, source_reason_line}
use Rattle.deb_install.specs.SourceReasons.{AreSourceReasonsIn, SourceReason, BuildNeeds, BuildExcludes, OfPackage, build_groups}
use Rattle.deb_install.specs.Terms.{Terms, terms}
use Rattle.deb_install.specs.Universes.{Setting, setting, setting_of}
use Rattle.deb_install.specs.declared.answer.Answer.{Answer}
use Rattle.deb_install.specs.declared.readings.Readings.TheVariants.{One}
use Rattle.deb_install.specs.declared.source_explaining.SourceExplaining.{SourceExplaining}
use Rattle.deb_install.specs.declared.source_kind.SourceKind.{SourceKind}
use Rattle.deb_install.specs.declared.source_kind.SourceKind.TheVariants.{Sources}

-- the groups that have rows, of a source package with these values, in one reading
abbrev pub built_groups : Environment → ValueEntries ValueMeaning → List Group
built_groups environment values = sure_groups environment (build_groups values)

-- the group that the row at an index is of, of the source package with a number
abbrev pub built_group : Setting → Meaning → ℕ → ℕ → Group
built_group s sources number at =
    get_or (built_groups s.environment (get_or sources (number - 1) [])) at []

-- what a fact says of the source package with this number; 0 is no source package, so the fact is
-- about a package
abbrev pub source_reason : Setting → Meaning → Universe → ℕ → Fact → SourceReason
source_reason s sources u number (facts.Needs member at) =
    cond (number == 0) (OfPackage (reason_of s u (facts.Needs member at)))
    (BuildNeeds number (built_group s sources number at) (row u.groups (needed u member at)))
source_reason s sources u number (facts.Excludes by at) =
    cond (number == 0) (OfPackage (reason_of s u (facts.Excludes by at)))
    (BuildExcludes number (excluded u by at))

-- Source packages have the numbers after those of the packages.
abbrev pub member_of : Fact → ℕ
member_of (facts.Needs member at) = member
member_of (facts.Excludes by at) = by

abbrev pub source_reason_of : Setting → Meaning → Universe → Fact → SourceReason
source_reason_of s sources u fact =
    source_reason s sources u (member_of fact - length s.packages) fact

-- the lines of facts
abbrev pub source_fact_lines : SourceKind → Setting → Meaning → Universe → List Fact → List ℕ
source_fact_lines kind s sources u found =
    flat_map (λ fact. source_reason_line kind s.packages sources
    (source_reason_of s sources u fact)) found

-- what source packages are explained by
abbrev pub setting_for : SourceExplaining → Meaning → Setting
setting_for explaining meaning = setting_of explaining.packages.now.listing.now meaning

abbrev pub universe_for : SourceExplaining → Universe
universe_for explaining = explaining.packages.now.universe.now

-- It holds packages and source packages with these values.
pub record HoldsForSources (kind : SourceKind) (meaning others : Meaning)
    (explaining : SourceExplaining) : Type 0 where
  pub packages : HoldsFor meaning explaining.packages.now
  pub sources : Pairwise (HoldsSource kind) others explaining.sources.now

-- The text has the lines of these answers, each with reasons that facts say.
pub record HasSourcesExplained (kind : SourceKind) (s : Setting) (sources : Meaning) (u : Universe)
    (answer : ℕ → Answer) (text : List ℕ) : Type 0 where
  pub found : ℕ → List Fact
  pub explain : (k : ℕ) → Explain u (length s.packages + (k + 1)) (found k)
  pub is : text ≡ source_lines_with true kind answer
      (λ k. map (source_reason_of s sources u) (found k)) s.packages sources

-- The text has the lines of the answers by verdicts in every reading and by true ones in one
-- reading, with reasons if they are asked.
pub record HasSourceReasons (asked : Bool) (kind : SourceKind) (t : Terms)
    (environment : Environment) (packages : List Listed) (meaning sources : Meaning)
    (every : List Verdict) (text : List ℕ) : Type 0 where
  pub one : List Verdict
  pub are : AreSourceVerdicts One t environment packages meaning sources one
  pub reasons : ℕ → List SourceReason
  pub are_reasons : AreSourceReasonsIn t environment packages meaning sources reasons
  pub is : text
      ≡ source_lines_with asked kind (answer_at every one) reasons packages sources

-- This text has the lines of true answers, and of reasons if they are asked.
pub record HasSourceAnswers (asked : Bool) (kind : SourceKind) (t : Terms)
    (environment : Environment) (packages : List Listed) (meaning sources : Meaning)
    (text : List ℕ) : Type 0 where
  pub answer : ℕ → Answer
  pub are_true : AreSourceAnswers t environment packages meaning sources answer
  pub reasons : ℕ → List SourceReason
  pub are_reasons : AreSourceReasonsIn t environment packages meaning sources reasons
  pub is : text ≡ source_lines_with asked kind answer reasons packages sources

-- Of two packages the second is left out. The first source package needs build-essential, aa, and
-- bb, which may be ignored, and ee; it excludes 2.
abbrev values : ValueEntries ValueMeaning
values = (
  codes "Build-Depends",
  RelationMeans ((alone (codes "aa") ∷ [])
      ∷ (with_list (codes "bb") false (codes "linux-any") ∷ [])
      ∷ (alone (codes "ee") ∷ []) ∷ []),
)
    ∷ (codes "Package", NameMeans (codes "dd"))
    ∷ (codes "Version", VersionMeans (version_in (codes "1"))) ∷ []

abbrev left_out : ValueEntries ValueMeaning
left_out = (codes "Package", NameMeans (codes "cc")) ∷ []

abbrev s : Setting
s =
    setting One (terms Depends false (codes "cc" ∷ [])) for_amd64
    (of (codes "ee") ∷ of (codes "cc") ∷ []) ([] ∷ left_out ∷ [])

abbrev example : Universe
example = record {
  needs = [] ∷ [] ∷ (0 ∷ []) ∷ (0 ∷ 0 ∷ 1 ∷ []) ∷ [];
  groups = [] ∷ (1 ∷ []) ∷ [];
  excludes = [] ∷ (2 ∷ []) ∷ [] ∷ (2 ∷ []) ∷ [];
}

worked-groups : built_groups for_amd64 values
    ≡ (with_qualifier (codes "build-essential") (codes "native") ∷ []) ∷ (alone (codes "aa") ∷ [])
    ∷ (alone (codes "ee") ∷ []) ∷ []
worked-groups = refl

worked-group : map (built_group s (values ∷ []) 1) (1 ∷ 2 ∷ 3 ∷ [])
    ≡ (alone (codes "aa") ∷ []) ∷ (alone (codes "ee") ∷ []) ∷ [] ∷ []
worked-group = refl

worked-members : map member_of (facts.Needs 2 0 ∷ facts.Excludes 3 1 ∷ []) ≡ 2 ∷ 3 ∷ []
worked-members = refl

worked-reasons : map (source_reason_of s (values ∷ []) example)
    (facts.Needs 3 1 ∷ facts.Needs 3 2 ∷ facts.Excludes 3 0 ∷ facts.Needs 2 0 ∷ facts.Excludes 1 0
    ∷ [])
    ≡ BuildNeeds 1 (alone (codes "aa") ∷ []) [] ∷ BuildNeeds 1 (alone (codes "ee") ∷ []) (1 ∷ [])
    ∷ BuildExcludes 1 2 ∷ OfPackage (IsLeftOut 2) ∷ OfPackage (Excludes 1 2) ∷ []
worked-reasons = refl

worked-reason : source_reason s (values ∷ []) example 1 (facts.Excludes 3 0) ≡ BuildExcludes 1 2
worked-reason = refl

worked-lines : source_fact_lines Sources s (values ∷ []) example
    (facts.Needs 3 2 ∷ facts.Excludes 3 0 ∷ facts.Needs 2 0 ∷ [])
    ≡ codes " 1 dd 1 source needs ee: 1\n 1 dd 1 source excludes 2 cc 1 amd64\n"
    ++ codes " 2 cc 1 amd64 is left out\n"
unfolding group_text digits
worked-lines = refl

worked-setting : (explaining : SourceExplaining)
    → explaining.packages.now.listing.now.without.now ≡ lent (codes "aa") ∷ []
    → (setting_for explaining []).terms.without ≡ codes "aa" ∷ []
worked-setting explaining = ap names_of

worked-universe : (explaining : SourceExplaining)
    → explaining.packages.now.universe.now.groups ≡ (7 ∷ []) ∷ []
    → row (universe_for explaining).groups 0 ≡ 7 ∷ []
worked-universe explaining = ap (λ groups. row groups 0)
