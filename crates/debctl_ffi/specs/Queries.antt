-- What is answered of a relation and an index to a program in C: Debian Policy 7.1 and 7.5. The
-- order of refusals and the report's form are this project's own.
use Rattle.std.specs.Prelude.{◌≡◌, ◌⊎◌, ℕ, Bool, true, false, IsFalse, IsTrue, List, [], ◌∷◌, map, None, codes, refl}
use Rattle.std.specs.Fmt.{digits}
use Rattle.deb_base.specs.declared.refusal.Refusal.{Refusal}
use Rattle.deb_relation.specs.Applying.{Environment}
use Rattle.deb_relation.specs.Meaning.{Relation}
use Rattle.deb_relation.specs.Tests.{some_wildcard}
use Rattle.deb_relation.specs.Texts.{group_text}
use Rattle.deb_version.specs.Places.{version_in}
use Rattle.deb_relation.specs.declared.operator.Op.TheVariants.{LaterEqual}
use Rattle.deb_index.specs.Alternatives.{alone, with_bound, with_list}
use Rattle.deb_index.specs.Indexes.{counts_of, packages_of}
use Rattle.deb_index.specs.Listed.{Listed}
use Rattle.deb_index.specs.declared.index.Index.{Index}
use Rattle.deb_index.specs.Questions.{IsGood, IsReported, Question, RefusesQuery, RefusesWords, bad_environment}
use Rattle.deb_index.specs.declared.members.Members.TheVariants as members
use Rattle.deb_index.specs.Questions.{bad_relation, environment_in, question, wildcard}
use Rattle.deb_index.specs.Reports.{Answer as GroupAnswer, all_met, report}
use Rattle.deb_index.specs.ReportText.{VersionShown, canonical_version, report_text, report_text_by, with_files}
use Rattle.deb_index.specs.Why.{detailed_report, detailed_report_by, detailed_text, detailed_text_by}
use Rattle.debctl_ffi.specs.Answers.{plain, refusing}
use Rattle.debctl_ffi.specs.declared.answer.Answer.{Answer}
use Rattle.debctl_ffi.specs.declared.report.Detail.{Detail}
use Rattle.debctl_ffi.specs.declared.report.Detail.TheVariants.{Reasons, Verdicts}

-- their codes are 19, 23 and 22, and they have no line
refusals : (refusing 2 bad_relation ≡ record { status = 2; code = 19; line = 0; count = 0 })
    × (refusing 2 bad_environment ≡ record { status = 2; code = 23; line = 0; count = 0 })
    × (refusing 2 wildcard ≡ record { status = 2; code = 22; line = 0; count = 0 })
refusals = (refl, refl, refl)

-- ---- the report

-- what is written of a relation over packages: the report, or the report with reasons
abbrev pub detail_text : Detail → List Listed → Relation → Environment → List ℕ
detail_text Verdicts packages relation environment =
    report_text (report packages relation environment)
detail_text Reasons packages relation environment =
    detailed_text (detailed_report packages relation environment)

-- with canonical versions; of several files, which have so many packages, the line of each package
-- names that of the package
abbrev pub in_files : List ℕ → VersionShown
in_files counts = with_files counts canonical_version

abbrev pub files_text : Detail → List ℕ → List Listed → Relation → Environment → List ℕ
files_text Verdicts counts packages relation environment =
    report_text_by (in_files counts) (report packages relation environment)
files_text Reasons counts packages relation environment =
    detailed_text_by (in_files counts)
    (detailed_report_by (in_files counts) packages relation environment)

-- The question has these answers, this is the text of their report, and whether no group is unmet.
pub record ReportsOn (detail : Detail) (q : Question) (text : List ℕ) (met : Bool)
    (bytes : List ℕ) : Type 0 where
  pub answers : List GroupAnswer
  pub reported : IsReported members.All q text answers
  pub met_is : met ≡ all_met answers
  pub text_is : bytes
      ≡ detail_text detail reported.packages reported.good.relation (environment_in q)

-- A list of the relation has a wildcard, and this is the refusal.
abbrev pub RefusesAsked : Relation → Refusal → Type 0
RefusesAsked relation refusal = IsTrue (some_wildcard relation) × (refusal ≡ wildcard)

-- the packages of an index, and how many of them each of its files has
pub record Kept : Type 0 where
  pub packages : List Listed
  pub counts : List ℕ

abbrev pub kept_by : Index → Kept
kept_by index = record { packages = packages_of index; counts = counts_of index }

-- No list of the relation has a wildcard, and this is the text of the report over these packages,
-- and whether no group is unmet.
pub record ReportsOver (detail : Detail) (kept : Kept) (relation : Relation)
    (environment : Environment) (met : Bool) (bytes : List ℕ) : Type 0 where
  pub plain : IsFalse (some_wildcard relation)
  pub met_is : met ≡ all_met (report kept.packages relation environment)
  pub text_is : bytes ≡ files_text detail kept.counts kept.packages relation environment

-- The words are good, no list has a wildcard, and this is the text of the report over what an index
-- keeps, and whether no group is unmet.
pub record ReportsKept (detail : Detail) (q : Question) (kept : Kept) (met : Bool)
    (bytes : List ℕ) : Type 0 where
  pub good : IsGood q
  pub over : ReportsOver detail kept good.relation (environment_in q) met bytes

-- The words are refused; or they are good, and a list has a wildcard.
pub record RefusesLists (q : Question) (refusal : Refusal) : Type 0 where
  pub good : IsGood q
  pub refused : RefusesAsked good.relation refusal

abbrev pub RefusesKept : Question → Refusal → Type 0
RefusesKept q refusal = RefusesWords q refusal ⊎ RefusesLists q refusal

worked-refusal : RefusesAsked ((with_list (codes "aa") false (codes "any") ∷ []) ∷ []) wildcard
worked-refusal = (refl, refl)

-- for worked cases
abbrev pub hello : Listed
hello = record {
  name = codes "hello";
  version = version_in (codes "1.0-0");
  architecture = codes "all";
  multi_arch = None;
  provisions = [];
}

-- of a package that is there, and of one that isn't
worked-texts : map (λ detail. detail_text detail (hello ∷ [])
    ((alone hello.name ∷ []) ∷ (alone (codes "bb") ∷ []) ∷ [])
    (record { target = codes "i386"; native = codes "i386"; profiles = [] }))
    (Verdicts ∷ Reasons ∷ [])
    ≡ codes "met hello\n 1 hello 1.0 all\nunmet bb\n"
    ∷ codes "met hello\n 1 hello 1.0 all\nunmet bb\n bb: no package has this name\n" ∷ []
unfolding digits group_text
worked-texts = refl

-- of the second of two files, with its reasons too; of one file none is named
worked-files : (files_text Verdicts (0 ∷ 1 ∷ []) (hello ∷ []) ((alone hello.name ∷ []) ∷ [])
    (environment_in (question (codes "i386") [] []))
    ≡ codes "met hello\n 1 hello 1.0 all @2\n")
    × (files_text Reasons (0 ∷ 1 ∷ []) (hello ∷ [])
    ((with_bound hello.name LaterEqual (codes "2") ∷ []) ∷ [])
    (environment_in (question (codes "i386") [] []))
    ≡ codes "unmet hello (>= 2)\n hello (>= 2): 1 hello 1.0 all is earlier @2\n")
    × (files_text Verdicts (1 ∷ []) (hello ∷ []) ((alone hello.name ∷ []) ∷ [])
    (environment_in (question (codes "i386") [] []))
    ≡ codes "met hello\n 1 hello 1.0 all\n")
unfolding digits group_text
worked-files = (refl, refl, refl)

-- ---- answers

-- The query is refused, and this is its refusal.
pub record IsRefusedQuery (q : Question) (text : List ℕ) (answer : Answer) : Type 0 where
  pub refusal : Refusal
  pub refused : RefusesQuery members.All q text refusal
  pub is : answer ≡ refusing 2 refusal

-- What is said of a file that is given as a text.
abbrev pub OfText : List ℕ → (List ℕ → Type 0) → Type 0
OfText text Says = Says text

-- These are the answer and the report: no group is unmet, or one is. `Each` says which files the
-- index is read from.
abbrev pub Reports : Detail → Question → ((List ℕ → Type 0) → Type 0) → Answer → List ℕ → Type 0
Reports detail q Each told bytes =
    ((told ≡ plain 0) × Each (λ text. ReportsOn detail q text true bytes))
    ⊎ ((told ≡ plain 1) × Each (λ text. ReportsOn detail q text false bytes))

-- The query is refused, or memory is out.
abbrev pub QueryFails : Question → ((List ℕ → Type 0) → Type 0) → Answer → Type 0
QueryFails q Each answer =
    ((answer.status ≡ 2) × Each (λ text. IsRefusedQuery q text answer)) ⊎ (answer ≡ plain 5)

-- The same of an index that is loaded: of what it keeps.
pub record IsRefusedKept (q : Question) (answer : Answer) : Type 0 where
  pub refusal : Refusal
  pub refused : RefusesKept q refusal
  pub is : answer ≡ refusing 2 refusal

abbrev pub ReportsLoaded : Detail → Question → ((Kept → Type 0) → Type 0) → Answer → List ℕ
    → Type 0
ReportsLoaded detail q Each told bytes =
    ((told ≡ plain 0) × Each (λ kept. ReportsKept detail q kept true bytes))
    ⊎ ((told ≡ plain 1) × Each (λ kept. ReportsKept detail q kept false bytes))

abbrev pub LoadedFails : Question → Answer → Type 0
LoadedFails q answer = IsRefusedKept q answer ⊎ (answer ≡ plain 5)
