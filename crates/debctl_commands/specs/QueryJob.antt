-- What the job of `query` answers and reports. The line of a refusal is this project's own; the
-- question, its refusals and its answers are those of `deb_index`.
use Rattle.std.specs.Prelude.{◌≡◌, ◌⊎◌, ℕ, Bool, List, [], ◌∷◌, map, Option, Some, None, Result, IfOk}
use Rattle.std.specs.Prelude.{IfErr, IsTrue, IsFalse, String, string_bytes, codes, refl}
use Rattle.std.specs.declared.alloc.Global.{Global}
use Rattle.std.proofs.Common.{ap}
use Rattle.std.specs.Fmt.{digits}
use Rattle.std.specs.Io.KnownBytes.{Appends}
use Rattle.deb_base.specs.Devices.{AppendsFront, read_failures_after, write_failures_after}
use Rattle.deb_base.specs.Faults.{MatchFault}
use Rattle.deb_base.specs.Lines.{refusal_line}
use Rattle.deb_base.specs.declared.fault.Fault.{Fault}
use Rattle.deb_base.specs.declared.refusal.Refusal.{Refusal}
use Rattle.deb_base.specs.declared.version_text.VersionText.{VersionText}
use Rattle.deb_base.specs.declared.version_text.VersionText.TheVariants.{Canonical, Spelled}
use Rattle.deb_relation.specs.Applying.{Environment}
use Rattle.deb_relation.specs.Grammar.{SpellsRelation}
use Rattle.deb_relation.specs.Meaning.{Relation}
use Rattle.deb_relation.specs.Tests.{some_wildcard}
use Rattle.deb_relation.specs.Texts.{group_text}
use Rattle.deb_version.specs.Places.{version_in}
use Rattle.deb_control.specs.Calls.{IfRefused, IfWriteFailed}
use Rattle.deb_control.specs.Checking.{IsRefusalOfDocument}
use Rattle.deb_index.specs.Alternatives.{alone}
use Rattle.deb_index.specs.Listed.{Listed}
use Rattle.deb_index.specs.Questions.{IsGood, IsReported, Question, RefusesQuery, RefusesWords}
use Rattle.deb_index.specs.Questions.{bad_environment, bad_relation, environment_in}
use Rattle.deb_index.specs.Questions.{has_environment, question, wildcard}
use Rattle.deb_index.specs.Reports.{Answer, all_met, report}
use Rattle.deb_index.specs.ReportText.{VersionShown, report_text_by, version_shown}
use Rattle.deb_index.specs.Members.{member_spellings}
use Rattle.deb_index.specs.declared.members.Members.{Members}
use Rattle.deb_index.specs.declared.members.Members.TheVariants.{All, Installed}
use Rattle.deb_index.specs.Why.{detailed_report_by, detailed_text_by}
use Rattle.debctl_args.specs.declared.jobs.Detail.{Detail}
use Rattle.debctl_args.specs.declared.jobs.Members.{Members as Asked}
use Rattle.debctl_args.specs.declared.jobs.Members.TheVariants as asked
use Rattle.debctl_args.specs.declared.jobs.Detail.TheVariants.{Reasons, Verdicts}
use Rattle.debctl_commands.specs.DocumentJobs.{IfNotWritten}
use Rattle.debctl_commands.specs.declared.query_job.QueryOptions.{QueryOptions}
use Rattle.debctl_commands.specs.declared.query_job.QueryWords.{QueryWords}

-- the question that the arguments which the code holds ask about a relation
abbrev pub question_of : QueryWords → List ℕ → Question
question_of given relation =
    question given.target.now (map string_bytes given.profiles.now) relation

-- ---- refusals

-- The words are refused.
abbrev pub AreRefused : Question → Type 0
AreRefused q =
    ((relation : Relation) → SpellsRelation q.relation relation → ⊥) ⊎ IsFalse (has_environment q)

-- Whether or not the reader's text is known: the words are refused, or they are good, and a file is
-- refused or a wildcard is.
abbrev pub IsQueryRefusal : Question → Refusal → Type 0
IsQueryRefusal q refusal =
    RefusesWords q refusal ⊎ (IsGood q × (IsRefusalOfDocument refusal ⊎ (refusal ≡ wildcard)))

-- ---- the answer

-- which packages of its file an index has
abbrev pub index_members : Asked → Members
index_members asked.All = All
index_members asked.Installed = Installed

abbrev pub query_options : Detail → VersionText → QueryOptions
query_options detail versions = record { detail = detail; versions = versions }

-- what is written of a relation over packages: the report, or with `--why` the report with reasons
abbrev pub detail_text : Detail → VersionShown → List Listed → Relation → Environment → List ℕ
detail_text Verdicts shown packages relation environment =
    report_text_by shown (report packages relation environment)
detail_text Reasons shown packages relation environment =
    detailed_text_by shown (detailed_report_by shown packages relation environment)

-- the same, where a file spells the versions of the packages by these texts, which are written with
-- `--spelled`
abbrev pub options_text : QueryOptions → List (List ℕ) → List Listed → Relation → Environment
    → List ℕ
options_text options spellings packages relation environment =
    detail_text options.detail (version_shown options.versions spellings) packages relation
    environment

-- Exactly the report was written, and the answer is whether no group is unmet; or a prefix of it
-- was, before a write failed.
pub record WritesReport (members : Members) (options : QueryOptions) (q : Question) (text : List ℕ)
    (old new : Option (List ℕ)) (met : Bool) : Type 0 where
  pub answers : List Answer
  pub reported : IsReported members q text answers
  pub met_is : met ≡ all_met answers
  pub written : Appends old new (options_text options (member_spellings members text)
      reported.packages reported.good.relation (environment_in q))

pub record WritesFrontOfReport (members : Members) (options : QueryOptions) (q : Question)
    (text : List ℕ) (old new : Option (List ℕ)) : Type 0 where
  pub answers : List Answer
  pub reported : IsReported members q text answers
  pub written : AppendsFront old new (options_text options (member_spellings members text)
      reported.packages reported.good.relation (environment_in q))

-- The answer to `query`, and what it wrote: by the reader's text, its count of failed calls before
-- and after, and the writer before and after.
pub record QueriesFile {W : Type 0} (members : Members) (options : QueryOptions) (q : Question)
    (left : Option (List ℕ)) (count count_after : ℕ) (held : W → Option (List ℕ))
    (failures : W → ℕ) (old new : W) (answer : Result Bool Fault) : Type 0 where
  pub ok : (text : List ℕ) → left ≡ Some text →
      IfOk answer (WritesReport members options q text (held old) (held new))
  pub refused : (text : List ℕ) → left ≡ Some text → IfRefused answer (RefusesQuery members q text)
  pub write : (text : List ℕ) → left ≡ Some text →
      IfWriteFailed answer (WritesFrontOfReport members options q text (held old) (held new))
  pub refusal : IfRefused answer (IsQueryRefusal q)
  pub unwritten : IfNotWritten answer (new ≡ old)
  pub reads : count_after ≡ read_failures_after count answer
  pub writes : failures new ≡ write_failures_after (failures old) answer

-- ---- the parts of the answer

-- What is written of a relation over the packages of an index, whose file spells their versions by
-- these texts: the report, or a prefix of it before a write failed; nothing, where a list of the
-- relation holds a wildcard or out of memory.
pub record ReportsOver {W : Type 0} (options : QueryOptions) (spellings : List (List ℕ))
    (packages : List Listed) (relation : Relation) (environment : Environment)
    (held : W → Option (List ℕ)) (failures : W → ℕ) (old new : W) (answer : Result Bool Fault)
    : Type 0 where
  pub ok : IfOk answer (λ met. IsFalse (some_wildcard relation)
      × (met ≡ all_met (report packages relation environment))
      × Appends (held old) (held new)
      (options_text options spellings packages relation environment))
  pub fault : IfErr answer (λ fault. MatchFault fault
      (λ refusal. IsTrue (some_wildcard relation) × (refusal ≡ wildcard) × (new ≡ old))
      (new ≡ old) ⊥
      (IsFalse (some_wildcard relation) × AppendsFront (held old) (held new)
      (options_text options spellings packages relation environment)))
  pub writes : failures new ≡ write_failures_after (failures old) answer

line_of_bad_relation : refusal_line bad_relation ≡ codes "line 0: 19 BadRelation\n"
unfolding digits
line_of_bad_relation = refl

line_of_bad_environment : refusal_line bad_environment ≡ codes "line 0: 23 BadEnvironment\n"
unfolding digits
line_of_bad_environment = refl

line_of_wildcard : refusal_line wildcard ≡ codes "line 0: 22 Wildcard\n"
unfolding digits
line_of_wildcard = refl

-- for the worked cases: what is written for amd64 of `aa, ww` over one package, whose version the
-- file spells otherwise than the canonical text does
abbrev pub ww : Listed
ww = record {
  name = codes "ww";
  version = version_in (codes "1.0");
  architecture = codes "all";
  multi_arch = None;
  provisions = [];
}

abbrev written : Detail → VersionText → List ℕ
written detail versions =
    options_text (query_options detail versions) (codes "0:1.0" ∷ []) (ww ∷ [])
    ((alone (codes "aa") ∷ []) ∷ (alone (codes "ww") ∷ []) ∷ [])
    (record { target = codes "amd64"; native = codes "amd64"; profiles = [] })

-- with reasons and without, and by the texts of the file and without
texts_of_queries : (written Verdicts Canonical ≡ codes "unmet aa\nmet ww\n 1 ww 1.0 all\n")
    × (written Verdicts Spelled ≡ codes "unmet aa\nmet ww\n 1 ww 0:1.0 all\n")
    × (written Reasons Spelled
    ≡ codes "unmet aa\n aa: no package has this name\nmet ww\n 1 ww 0:1.0 all\n")
unfolding digits group_text
texts_of_queries = (refl, refl, refl)

members_of_indexes : map index_members (asked.All ∷ asked.Installed ∷ []) ≡ All ∷ Installed ∷ []
members_of_indexes = refl

-- the arguments that the code holds are those of the question
question_of_arguments : (given : QueryWords) (relation : List ℕ) (one other : String Global)
    → given.profiles.now ≡ one ∷ other ∷ []
    → question_of given relation
    ≡ question given.target.now (string_bytes one ∷ string_bytes other ∷ []) relation
question_of_arguments given relation one other are =
    ap (λ named. question given.target.now (map string_bytes named) relation) are
