-- What the job of `query` over several indexes answers and reports: the report of `deb_index`, in
-- which the line of a package names its file. The order of refusals is this project's own.
use Rattle.std.specs.Prelude.{◌≡◌, ◌⊎◌, ℕ, Bool, List, [], ◌∷◌, map, length, Result, Ok, Err, IfOk}
use Rattle.std.specs.Prelude.{IfErr, IsFalse, IsTrue, Vec, string_bytes, codes, refl}
use Rattle.std.specs.declared.alloc.Global.{Global}
use Rattle.std.specs.Fmt.{digits}
use Rattle.std.specs.Io.KnownBytes.{Appends}
use Rattle.deb_base.specs.Devices.{AppendsFront, write_failures_after}
use Rattle.deb_base.specs.Faults.{IsReadersFault, MatchFault, RefusedOrMemory}
use Rattle.deb_base.specs.declared.fault.Fault.{Fault}
use Rattle.deb_base.specs.declared.version_text.VersionText.TheVariants.{Canonical, Spelled}
use Rattle.deb_relation.specs.Applying.{Environment}
use Rattle.deb_relation.specs.Meaning.{Relation}
use Rattle.deb_relation.specs.Tests.{some_wildcard}
use Rattle.deb_relation.specs.Texts.{group_text}
use Rattle.deb_index.specs.Alternatives.{alone}
use Rattle.deb_index.specs.Indexes.{counts_of, packages_of, spellings_of}
use Rattle.deb_index.specs.Listed.{Listed}
use Rattle.deb_index.specs.Questions.{IsGood, Question, RefusesWords, environment_in, question, wildcard}
use Rattle.deb_index.specs.ReportText.{VersionShown, version_shown, with_files}
use Rattle.deb_index.specs.Reports.{all_met, report}
use Rattle.deb_index.specs.declared.index.Index.{Index}
use Rattle.deb_index.specs.declared.members.Members.{Members}
use Rattle.debctl_args.specs.declared.jobs.Detail.TheVariants.{Reasons, Verdicts}
use Rattle.debctl_args.specs.declared.jobs.QueryOver.{QueryOver}
use Rattle.debctl_args.specs.declared.jobs.RelationArgument.{RelationArgument}
use Rattle.debctl_args.specs.declared.jobs.RelationArgument.TheVariants.{From, Text}
use Rattle.debctl_commands.specs.FileFaults.{at_role, fault_at}
use Rattle.debctl_commands.specs.IndexFiles.{FailsAtIndexes, ReadsAll}
use Rattle.debctl_commands.specs.JobDevices.{WriterOfJob}
use Rattle.debctl_commands.specs.OpenedFiles.{Opener, ReadsPath}
use Rattle.debctl_commands.specs.QueryFrom.{IsRead, RefusesLong}
use Rattle.debctl_commands.specs.QueryJob.{detail_text, index_members, query_options, ww}
use Rattle.debctl_commands.specs.declared.file_fault.FileFault.{FileFault}
use Rattle.debctl_commands.specs.declared.file_fault.Role.TheVariants.{Unnamed}
use Rattle.debctl_commands.specs.declared.query_job.QueryOptions.{QueryOptions}

-- ---- the words

-- the question that the arguments ask about a relation
abbrev pub asked_over : QueryOver → List ℕ → Question
asked_over given relation =
    question (string_bytes given.arch) (map string_bytes given.profiles.items) relation

-- which packages of their files the indexes have, what is written of each group, and the paths
abbrev pub members_over : QueryOver → Members
members_over given = index_members given.members

abbrev pub options_over : QueryOver → QueryOptions
options_over given = query_options given.detail given.versions

abbrev pub paths_over : QueryOver → List (List ℕ)
paths_over given = map string_bytes given.indexes.items

-- ---- the report

-- how the line of a package shows it, where files have so many packages and spell the versions by
-- these texts: with the version that is asked for, and if there are several files with its file
abbrev pub shown_over : QueryOptions → List ℕ → List (List ℕ) → VersionShown
shown_over options counts spellings =
    with_files counts (version_shown options.versions spellings)

-- what is written of a relation over these packages
abbrev pub text_over : QueryOptions → List ℕ → List (List ℕ) → List Listed → Relation → Environment
    → List ℕ
text_over options counts spellings packages relation environment =
    detail_text options.detail (shown_over options counts spellings) packages relation environment

-- the same, over an index
abbrev pub index_text : QueryOptions → Index → Relation → Environment → List ℕ
index_text options index relation environment =
    text_over options (counts_of index) (spellings_of index) (packages_of index) relation
    environment

-- The report was written, and whether no group is unmet is told; or a prefix of it before a write
-- failed; or nothing, where a list of the relation holds a wildcard or out of memory.
pub record ReportsFiles {W : Type 0} (options : QueryOptions) (index : Index) (relation : Relation)
    (environment : Environment) (out : WriterOfJob W) (answer : Result Bool Fault) : Type 0 where
  pub ok : IfOk answer (λ met. IsFalse (some_wildcard relation)
      × (met ≡ all_met (report (packages_of index) relation environment))
      × Appends (out.held out.old) (out.held out.new)
      (index_text options index relation environment))
  pub fault : IfErr answer (λ fault. MatchFault fault
      (λ refusal. IsTrue (some_wildcard relation) × (refusal ≡ wildcard) × (out.new ≡ out.old))
      (out.new ≡ out.old) ⊥
      (IsFalse (some_wildcard relation) × AppendsFront (out.held out.old) (out.held out.new)
      (index_text options index relation environment)))
  pub writes : out.failures out.new ≡ write_failures_after (out.failures out.old) answer

-- ---- the answer

-- The words are refused, or out of memory: no index was opened, and nothing was written.
pub record FailsAtQuestion {F W : Type 0} (q : Question) (files files_after : F)
    (out : WriterOfJob W) (answer : Result Bool FileFault) : Type 0 where
  pub fault : Fault
  pub is : answer ≡ Err (fault_at Unnamed fault)
  pub fault_is : RefusedOrMemory fault (RefusesWords q)
  pub unopened : files_after ≡ files
  pub unwritten : out.new ≡ out.old

-- The indexes were read, and the report of them was written so.
pub record ReportsIndexes {F R W : Type 0} (by : Opener F R) (members : Members)
    (options : QueryOptions) (relation : Relation) (environment : Environment)
    (paths : List (List ℕ)) (files files_after : F) (out : WriterOfJob W)
    (answer : Result Bool FileFault) : Type 0 where
  pub index : Index
  pub read : ReadsAll by members paths index files files_after
  pub reported : Result Bool Fault
  pub is : answer ≡ at_role Unnamed reported
  pub reports : ReportsFiles options index relation environment out reported

abbrev pub AsksIndexes : {F R W : Type 0} → Opener F R → Members → QueryOptions → Relation
    → Environment → List (List ℕ) → F → F → WriterOfJob W → Result Bool FileFault → Type 0
AsksIndexes by members options relation environment paths files files_after out answer =
    FailsAtIndexes by members Unnamed (length paths) paths files files_after out answer
    ⊎ ReportsIndexes by members options relation environment paths files files_after out answer

-- The answer to a question over the indexes of some paths.
abbrev pub QueriesIndexes : {F R W : Type 0} → Opener F R → Members → QueryOptions → Question
    → List (List ℕ) → F → F → WriterOfJob W → Result Bool FileFault → Type 0
QueriesIndexes by members options q paths files files_after out answer =
    FailsAtQuestion q files files_after out answer
    ⊎ ((good : IsGood q)
    × AsksIndexes by members options good.relation (environment_in q) paths files files_after out
    answer)

-- The file of the relation is too long, can't be opened or read, or takes too much memory: no other
-- file was opened, and nothing was written.
pub record FailsAtRelation {F R W : Type 0} (by : Opener F R) (path : List ℕ)
    (files files_after : F) (out : WriterOfJob W) (answer : Result Bool FileFault) : Type 0 where
  pub fault : Fault
  pub is : answer ≡ Err (fault_at Unnamed fault)
  pub reads : ReadsPath {T = Vec ℕ Global} by path files (Err fault) files_after
  pub fault_is : IsReadersFault fault (RefusesLong (by.text files path))
  pub unwritten : out.new ≡ out.old

-- The file of the relation was read, and the question about what it contains has this answer.
pub record QueriesRelation {F R W : Type 0} (by : Opener F R) (given : QueryOver) (path : List ℕ)
    (files files_after : F) (out : WriterOfJob W) (answer : Result Bool FileFault) : Type 0 where
  pub relation : Vec ℕ Global
  pub between : F
  pub reads : ReadsPath by path files (Ok relation) between
  pub is_read : IsRead (by.text files path) relation.items
  pub queries : QueriesIndexes by (members_over given) (options_over given)
      (asked_over given relation.items) (paths_over given) between files_after out answer

abbrev pub QueriesFrom : {F R W : Type 0} → Opener F R → QueryOver → List ℕ → F → F
    → WriterOfJob W → Result Bool FileFault → Type 0
QueriesFrom by given path files files_after out answer =
    FailsAtRelation by path files files_after out answer
    ⊎ QueriesRelation by given path files files_after out answer

abbrev pub QueriesSource : {F R W : Type 0} → Opener F R → QueryOver → RelationArgument → F → F
    → WriterOfJob W → Result Bool FileFault → Type 0
QueriesSource by given (Text relation) files files_after out answer =
    QueriesIndexes by (members_over given) (options_over given)
    (asked_over given (string_bytes relation)) (paths_over given) files files_after out answer
QueriesSource by given (From path) files files_after out answer =
    QueriesFrom by given (string_bytes path) files files_after out answer

-- What an answer of the job says.
abbrev pub QueriesOver : {F R W : Type 0} → Opener F R → QueryOver → F → F → WriterOfJob W
    → Result Bool FileFault → Type 0
QueriesOver by given files files_after out answer =
    QueriesSource by given given.relation files files_after out answer

-- ---- worked cases

-- `aa, ww` for amd64 over two indexes, of which the first has no package and the second has one,
-- whose version it spells otherwise than the canonical text does
abbrev written : QueryOptions → List ℕ
written options =
    text_over options (0 ∷ 1 ∷ []) (codes "0:1.0" ∷ []) (ww ∷ [])
    ((alone (codes "aa") ∷ []) ∷ (alone (codes "ww") ∷ []) ∷ [])
    (record { target = codes "amd64"; native = codes "amd64"; profiles = [] })

-- a line names the file of its package
texts_of_queries : (written (query_options Verdicts Canonical)
    ≡ codes "unmet aa\nmet ww\n 1 ww 1.0 all @2\n")
    × (written (query_options Reasons Spelled)
    ≡ codes "unmet aa\n aa: no package has this name\nmet ww\n 1 ww 0:1.0 all @2\n")
unfolding digits group_text
texts_of_queries = (refl, refl)
