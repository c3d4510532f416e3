-- What the job of `unmet` answers. Its lines are those of `deb_unmet`; the order in which files are
-- read and refused is this project's own.
use Rattle.std.specs.Prelude.{◌≡◌, ◌⊎◌, ℕ, ◌&&◌, Bool, true, false, List, [], ◌∷◌, ◌++◌, ◌+◌, length, map}
use Rattle.std.specs.Prelude.{Option, Some, None, Result, Ok, Err, IfErr, IfOk, IsFalse, IsTrue}
use Rattle.std.specs.Prelude.{String, string_bytes, codes, refl}
use Rattle.std.specs.Option.{option_map}
use Rattle.std.specs.Str.{is_utf8, chars}
use lib.Utf8.{encode}
use Rattle.std.specs.declared.alloc.Global.{Global}
use Rattle.deb_base.specs.Devices.{read_failures_after, write_failures_after}
use Rattle.deb_base.specs.Faults.{RefusedOrMemory}
use Rattle.deb_base.specs.Literals.{string, vector}
use Rattle.deb_base.specs.declared.fault.Fault.{Fault}
use Rattle.deb_base.specs.declared.fault.Fault.TheVariants as faults
use Rattle.deb_base.specs.declared.fault.Fault.TheVariants.{Read, Refused}
use Rattle.deb_base.specs.declared.version_text.VersionText.{VersionText}
use Rattle.deb_base.specs.declared.version_text.VersionText.TheVariants.{Spelled}
use Rattle.deb_relation.specs.Applying.{Environment}
use Rattle.deb_relation.specs.Environments.{environment_with, with_target}
use Rattle.deb_relation.specs.Targets.{is_environment, is_target}
use Rattle.deb_relation.specs.declared.environment.EnvFault.{EnvFault}
use Rattle.deb_relation.specs.declared.environment.EnvFault.TheVariants.{BadEnvironment, Memory}
use Rattle.deb_control.specs.Calls.{IfCutOff, IfRefused, IfWriteFailed}
use Rattle.deb_control.specs.Checking.{IsRefusalOfDocument}
use Rattle.deb_control.specs.Documents.{refusal_of}
use Rattle.deb_index.specs.Indexes.{packages_of}
use Rattle.deb_index.specs.Members.{doc_of}
use Rattle.deb_index.specs.Questions.{bad_environment}
use Rattle.deb_index.specs.Without.{without}
use Rattle.deb_index.specs.declared.index.Index.{Index}
use Rattle.deb_index.specs.declared.members.Members.{Members}
use Rattle.deb_unmet.specs.Asked.{request_for}
use Rattle.deb_unmet.specs.Asking.{asks_of}
use Rattle.deb_unmet.specs.Files.{Asks, WritesFile, WritesRead, WritesRefused, WritesSome}
use Rattle.deb_unmet.specs.Own.{OwnAsks, StopsOwn, WritesOwn, own_asked, own_request}
use Rattle.deb_unmet.specs.Scopes.{Scope, over_packages}
use Rattle.deb_unmet.specs.declared.asked.Asked.{Asked}
use Rattle.deb_unmet.specs.declared.asked.Asked.TheVariants as fields
use Rattle.deb_unmet.specs.declared.asked.Request.{Request}
use Rattle.deb_unmet.specs.declared.asked.SourcesAsked.{SourcesAsked}
use Rattle.deb_unmet.specs.declared.asked.SourcesAsked.TheVariants as asked
use Rattle.deb_unmet.specs.declared.asked.Strength.{Strength as Fields}
use Rattle.deb_unmet.specs.declared.asked.Strength.TheVariants as fields_of
use Rattle.deb_unmet.specs.declared.asking.Summary.{Summary}
use Rattle.deb_unmet.specs.declared.own.OwnRequest.{OwnRequest}
use Rattle.debctl_args.specs.declared.jobs.Dependents.{Dependents}
use Rattle.debctl_args.specs.declared.jobs.Dependents.TheVariants.{Index as Itself, Packages, Binary, Sources}
use Rattle.debctl_args.specs.declared.jobs.Dependents.TheVariants.{Source}
use Rattle.debctl_args.specs.declared.jobs.Members.TheVariants as members
use Rattle.debctl_args.specs.declared.jobs.SourcesTried.{SourcesTried}
use Rattle.debctl_args.specs.declared.jobs.SourcesTried.TheVariants.{All, OfTarget}
use Rattle.debctl_args.specs.declared.jobs.Strength.{Strength}
use Rattle.debctl_args.specs.declared.jobs.Strength.TheVariants.{Depends, Recommends}
use Rattle.debctl_args.specs.declared.jobs.Unmet.{Unmet}
use Rattle.debctl_commands.specs.FileFaults.{at_role, fault_at, role_among}
use Rattle.debctl_commands.specs.IndexFiles.{FailsAtIndexes, FailsToRead, ReadsAll}
use Rattle.debctl_commands.specs.JobDevices.{WriterOfJob}
use Rattle.debctl_commands.specs.OpenedFiles.{OpensFile, Opener}
use Rattle.debctl_commands.specs.QueryJob.{index_members}
use Rattle.debctl_commands.specs.Taking.{TakesFile}
use Rattle.debctl_commands.specs.declared.file_fault.FileFault.{FileFault}
use Rattle.debctl_commands.specs.declared.file_fault.PlaceFault.{PlaceFault}
use Rattle.debctl_commands.specs.declared.file_fault.Role.TheVariants.{First, Old, Second, Unnamed}

-- ---- the arguments

-- which fields of binary packages are tried, which source packages, and of which kind of file
abbrev pub fields_tried : Strength → Fields
fields_tried Depends = fields_of.Depends
fields_tried Recommends = fields_of.Recommends

abbrev pub sources_tried : SourcesTried → SourcesAsked
sources_tried OfTarget = asked.OfTarget
sources_tried All = asked.All

abbrev pub asked_of : Dependents → Asked
asked_of (Itself strength) = fields.Packages (fields_tried strength)
asked_of (Packages strength) = fields.Packages (fields_tried strength)
asked_of (Binary strength) = fields.Binary (fields_tried strength)
asked_of (Sources which) = fields.Sources (sources_tried which)
asked_of (Source which) = fields.Source (sources_tried which)

-- and which text of versions lines have
abbrev pub request_of : Dependents → VersionText → Request
request_of dependents versions = request_for (asked_of dependents) versions

-- which fields of the packages of the index itself are tried
abbrev pub fields_in : Dependents → Fields
fields_in (Itself strength) = fields_tried strength
fields_in (Packages strength) = fields_tried strength
fields_in (Binary strength) = fields_tried strength
fields_in (Sources which) = fields_of.Depends
fields_in (Source which) = fields_of.Depends

-- which packages of their files the indexes have, the paths of the indexes, those of the old index
-- and of the file whose groups are tried, if there are any, and the names that are left out
abbrev pub members_given : Unmet → Members
members_given given = index_members given.members

abbrev pub paths_given : Unmet → List (List ℕ)
paths_given given = map string_bytes given.files.indexes.items

abbrev pub old_given : Unmet → Option (List ℕ)
old_given given = option_map string_bytes given.files.unless

abbrev pub path_given : Unmet → Option (List ℕ)
path_given given = option_map string_bytes given.files.path

abbrev pub names_given : Unmet → List (List ℕ)
names_given given = map string_bytes given.without.items

-- the environment that the arguments name; with `--all-for` the target is another one
abbrev pub with_target_if : Option (List ℕ) → Environment → Environment
with_target_if None environment = environment
with_target_if (Some target) environment = with_target target environment

abbrev pub is_target_if : Option (List ℕ) → Bool
is_target_if None = true
is_target_if (Some target) = is_target target

abbrev pub environment_given : Unmet → Environment
environment_given given = with_target_if (option_map string_bytes given.all_for)
    (environment_with (string_bytes given.arch) (map string_bytes given.profiles.items))

abbrev pub has_environment : Unmet → Bool
has_environment given =
    is_environment (string_bytes given.arch) (map string_bytes given.profiles.items)
    && is_target_if (option_map string_bytes given.all_for)

-- the scope of the groups except for the packages of the indexes: the old index that was read, if
-- there is one, and the names that are left out
abbrev pub scope_with : Option Index → List (List ℕ) → Scope
scope_with old names =
    record {
      packages = [];
      unless = option_map (λ index. packages_of index) old;
      without = names;
    }

-- the fault of an environment that the arguments name
abbrev pub environment_fault : EnvFault → Fault
environment_fault BadEnvironment = Refused bad_environment
environment_fault Memory = faults.Memory

-- ---- the answer of a file

-- The answer to `unmet` over an index, and what it wrote: by the reader's text, its count of failed
-- calls before and after, and the writer before and after.
pub record AsksFile {W : Type 0} (asks : Asks) (left : Option (List ℕ))
    (count count_after : ℕ) (held : W → Option (List ℕ)) (failures : W → ℕ) (old new : W)
    (answer : Result Summary Fault) : Type 0 where
  pub ok : (text : List ℕ) → left ≡ Some text →
      IfOk answer (λ summary. WritesFile asks text summary (held old) (held new))
  pub refused : (text : List ℕ) → left ≡ Some text →
      IfRefused answer (λ refusal. WritesRefused asks text refusal (held old) (held new))
  pub cut_off : (text : List ℕ) → left ≡ Some text →
      IfCutOff answer (WritesRead asks text (held old) (held new))
  pub write : (text : List ℕ) → left ≡ Some text →
      IfWriteFailed answer (WritesSome asks text (held old) (held new))
  pub refusal : IfRefused answer IsRefusalOfDocument
  pub reads : count_after ≡ read_failures_after count answer
  pub writes : failures new ≡ write_failures_after (failures old) answer

-- The same of an index over its own packages.
pub record AsksOwn {W : Type 0} (own : OwnAsks) (left : Option (List ℕ)) (count count_after : ℕ)
    (held : W → Option (List ℕ)) (failures : W → ℕ) (old new : W)
    (answer : Result Summary Fault) : Type 0 where
  pub ok : (text : List ℕ) → left ≡ Some text →
      IfOk answer (λ summary. WritesOwn own text summary (held old) (held new))
  pub refused : (text : List ℕ) → left ≡ Some text →
      IfRefused answer (λ refusal. refusal_of (doc_of own.members) text ≡ Some refusal)
  pub stopped : (text : List ℕ) → left ≡ Some text →
      IfErr answer (λ fault. StopsOwn fault own text (held old) (held new))
  pub unwritten : IfRefused answer (λ _. new ≡ old)
  pub refusal : IfRefused answer IsRefusalOfDocument
  pub reads : count_after ≡ read_failures_after count answer
  pub writes : failures new ≡ write_failures_after (failures old) answer

-- ---- where the job ends

-- The environment isn't good and is refused, or out of memory: no file was opened, and nothing was
-- written to `out`.
pub record FailsAtArguments {F W : Type 0} (good : Bool) (files files_after : F)
    (out : WriterOfJob W) (answer : Result Summary FileFault) : Type 0 where
  pub fault : Fault
  pub is : answer ≡ Err (fault_at Unnamed fault)
  pub fault_is : RefusedOrMemory fault (λ refusal. IsFalse good × (refusal ≡ bad_environment))
  pub unopened : files_after ≡ files
  pub unwritten : out.new ≡ out.old

-- The old index was read, if there is one.
abbrev pub ReadsOld : {F R : Type 0} → Opener F R → Members → Option (List ℕ) → Option Index → F
    → F → Type 0
ReadsOld by members None None files files_after = files_after ≡ files
ReadsOld by members None (Some index) files files_after = ⊥
ReadsOld by members (Some path) None files files_after = ⊥
ReadsOld by members (Some path) (Some index) files files_after =
    ReadsAll by members (path ∷ []) index files files_after

-- It is refused, can't be opened or read, or takes too much memory.
pub record FailsToReadOld {F R : Type 0} (by : Opener F R) (members : Members)
    (unless : Option (List ℕ)) (fault : Fault) (files files_after : F) : Type 0 where
  pub path : List ℕ
  pub given : unless ≡ Some path
  pub told : PlaceFault
  pub is : fault ≡ told.fault
  pub fails : FailsToRead by members (path ∷ []) told files files_after

abbrev pub AnswersOld : {F R : Type 0} → Opener F R → Members → Option (List ℕ) → F
    → Result (Option Index) Fault → F → Type 0
AnswersOld by members unless files (Ok old) files_after =
    ReadsOld by members unless old files files_after
AnswersOld by members unless files (Err fault) files_after =
    FailsToReadOld by members unless fault files files_after

-- The job ends there: no other file was opened, and nothing was written to `out`.
pub record FailsAtOld {F R W : Type 0} (by : Opener F R) (members : Members)
    (unless : Option (List ℕ)) (files files_after : F) (out : WriterOfJob W)
    (answer : Result Summary FileFault) : Type 0 where
  pub fault : Fault
  pub is : answer ≡ Err (fault_at Old fault)
  pub fails : FailsToReadOld by members unless fault files files_after
  pub unwritten : out.new ≡ out.old

-- The indexes were read, and there was no memory to leave out names.
pub record FailsAtNames {F R W : Type 0} (by : Opener F R) (members : Members)
    (paths : List (List ℕ)) (files files_after : F) (out : WriterOfJob W)
    (answer : Result Summary FileFault) : Type 0 where
  pub index : Index
  pub read : ReadsAll by members paths index files files_after
  pub is : answer ≡ Err (fault_at Unnamed faults.Memory)
  pub unwritten : out.new ≡ out.old

-- The file of a path was opened, and its groups were tried as `asks` says; or it couldn't be
-- opened.
abbrev pub TriesPath : {F R W : Type 0} → Opener F R → Asks → List ℕ → F → F → WriterOfJob W
    → Result Summary Fault → Type 0
TriesPath by asks path files files_after out tried =
    OpensFile by path
    (λ reader rest. TakesFile (by.left reader) (by.left rest)
    × AsksFile asks (by.left reader) (by.failures reader) (by.failures rest) out.held out.failures
    out.old out.new tried)
    ((tried ≡ Err Read) × (out.new ≡ out.old)) files files_after

-- The same of an index in itself.
abbrev pub TriesItself : {F R W : Type 0} → Opener F R → OwnAsks → List ℕ → F → F → WriterOfJob W
    → Result Summary Fault → Type 0
TriesItself by own path files files_after out tried =
    OpensFile by path
    (λ reader rest. TakesFile (by.left reader) (by.left rest)
    × AsksOwn own (by.left reader) (by.failures reader) (by.failures rest) out.held out.failures
    out.old out.new tried)
    ((tried ≡ Err Read) × (out.new ≡ out.old)) files files_after

-- The indexes were read, and the groups of another file were tried over those of their packages
-- that aren't left out.
pub record AsksOver {F R W : Type 0} (by : Opener F R) (given : Unmet) (environment : Environment)
    (scope : Scope) (path : List ℕ) (files files_after : F) (out : WriterOfJob W)
    (answer : Result Summary FileFault) : Type 0 where
  pub index : Index
  pub between : F
  pub read : ReadsAll by (members_given given) (paths_given given) index files between
  pub tried : Result Summary Fault
  pub is : answer ≡ at_role Second tried
  pub tries : TriesPath by (asks_of (request_of given.dependents given.versions) environment
      (over_packages (without scope.without (packages_of index)) scope)) path between files_after
      out tried

-- The indexes before the last one were read, and the groups of the last one were tried over the
-- packages of all.
pub record AsksItself {F R W : Type 0} (by : Opener F R) (request : OwnRequest)
    (environment : Environment) (scope : Scope) (before : List (List ℕ)) (last : List ℕ)
    (files files_after : F) (out : WriterOfJob W) (answer : Result Summary FileFault) : Type 0
  where
    pub index : Index
    pub between : F
    pub read : ReadsAll by request.members before index files between
    pub tried : Result Summary Fault
    pub is : answer ≡ at_role (role_among First (length before + 1) (length before + 1)) tried
    pub tries : TriesItself by
        (own_asked request environment (over_packages (packages_of index) scope)) last between
        files_after out tried

abbrev pub AsksBefore : {F R W : Type 0} → Opener F R → OwnRequest → Environment → Scope
    → List (List ℕ) → List ℕ → F → F → WriterOfJob W → Result Summary FileFault → Type 0
AsksBefore by request environment scope before last files files_after out answer =
    FailsAtIndexes by request.members First (length before + 1) before files files_after out answer
    ⊎ AsksItself by request environment scope before last files files_after out answer

-- No index is given, and there is no line.
pub record AsksNothing {F W : Type 0} (paths : List (List ℕ)) (files files_after : F)
    (out : WriterOfJob W) (answer : Result Summary FileFault) : Type 0 where
  pub none : paths ≡ []
  pub is : answer ≡ Ok (record { paragraphs = 0; is_empty = true })
  pub unopened : files_after ≡ files
  pub unwritten : out.new ≡ out.old

-- The answer where the groups are those of the last index, by which indexes come before it.
pub record AsksLast {F R W : Type 0} (by : Opener F R) (given : Unmet) (environment : Environment)
    (scope : Scope) (files files_after : F) (out : WriterOfJob W)
    (answer : Result Summary FileFault) : Type 0 where
  pub before : List (List ℕ)
  pub last : List ℕ
  pub are : paths_given given ≡ before ++ last ∷ []
  pub asks : AsksBefore by
      (own_request (members_given given) (fields_in given.dependents) given.versions) environment
      scope before last files files_after out answer

-- The answer after the old index: over another file, if a path is given, and else over the last
-- index.
abbrev pub AsksBeside : {F R W : Type 0} → Opener F R → Unmet → Environment → Scope → List ℕ
    → F → F → WriterOfJob W → Result Summary FileFault → Type 0
AsksBeside by given environment scope path files files_after out answer =
    FailsAtIndexes by (members_given given) First (length (paths_given given)) (paths_given given)
    files files_after out answer
    ⊎ FailsAtNames by (members_given given) (paths_given given) files files_after out answer
    ⊎ AsksOver by given environment scope path files files_after out answer

abbrev pub AsksInItself : {F R W : Type 0} → Opener F R → Unmet → Environment → Scope → F → F
    → WriterOfJob W → Result Summary FileFault → Type 0
AsksInItself by given environment scope files files_after out answer =
    AsksNothing (paths_given given) files files_after out answer
    ⊎ AsksLast by given environment scope files files_after out answer

abbrev pub AsksGroups : {F R W : Type 0} → Opener F R → Unmet → Environment → Scope
    → Option (List ℕ) → F → F → WriterOfJob W → Result Summary FileFault → Type 0
AsksGroups by given environment scope (Some path) files files_after out answer =
    AsksBeside by given environment scope path files files_after out answer
AsksGroups by given environment scope None files files_after out answer =
    AsksInItself by given environment scope files files_after out answer

-- The old index, if there is one, was read, and the groups were tried over it.
pub record AsksAfterOld {F R W : Type 0} (by : Opener F R) (given : Unmet)
    (environment : Environment) (names : List (List ℕ)) (files files_after : F)
    (out : WriterOfJob W) (answer : Result Summary FileFault) : Type 0
  where
    pub old : Option Index
    pub between : F
    pub reads : ReadsOld by (members_given given) (old_given given) old files between
    pub asks : AsksGroups by given environment (scope_with old names) (path_given given) between
        files_after out answer

abbrev pub AsksIn : {F R W : Type 0} → Opener F R → Unmet → Environment → List (List ℕ) → F → F
    → WriterOfJob W → Result Summary FileFault → Type 0
AsksIn by given environment names files files_after out answer =
    FailsAtOld by (members_given given) (old_given given) files files_after out answer
    ⊎ AsksAfterOld by given environment names files files_after out answer

-- What an answer of the job says, without these names.
abbrev pub AsksWithout : {F R W : Type 0} → Opener F R → Unmet → List (List ℕ) → F → F
    → WriterOfJob W → Result Summary FileFault → Type 0
AsksWithout by given names files files_after out answer =
    FailsAtArguments (has_environment given) files files_after out answer
    ⊎ (IsTrue (has_environment given)
    × AsksIn by given (environment_given given) names files files_after out answer)

abbrev pub AsksUnmet : {F R W : Type 0} → Opener F R → Unmet → F → F → WriterOfJob W
    → Result Summary FileFault → Type 0
AsksUnmet by given files files_after out answer =
    AsksWithout by given (names_given given) files files_after out answer

-- ---- worked cases

-- which fields of which kind of file are tried
kinds_tried : (asked_of (Itself Recommends) ≡ fields.Packages fields_of.Recommends)
    × (asked_of (Packages Depends) ≡ fields.Packages fields_of.Depends)
    × (asked_of (Binary Depends) ≡ fields.Binary fields_of.Depends)
    × (asked_of (Sources OfTarget) ≡ fields.Sources asked.OfTarget)
    × (asked_of (Source All) ≡ fields.Source asked.All)
    × (request_of (Sources All) Spelled
    ≡ record { asked = fields.Sources asked.All; versions = Spelled })
    × (map fields_in (Itself Recommends ∷ Packages Depends ∷ Binary Recommends ∷ Sources All
    ∷ Source OfTarget ∷ [])
    ≡ fields_of.Recommends ∷ fields_of.Depends ∷ fields_of.Recommends ∷ fields_of.Depends
    ∷ fields_of.Depends ∷ [])
kinds_tried = (refl, refl, refl, refl, refl, refl, refl)

abbrev word : String Global
unfolding is_utf8 chars encode
word = string (codes "amd64") refl refl

abbrev other : String Global
unfolding is_utf8 chars encode
other = string (codes "b-") refl refl

abbrev wildcard : String Global
unfolding is_utf8 chars encode
wildcard = string (codes "any") refl refl

-- for the worked cases: the arguments of a call
abbrev call : Option (String Global) → Unmet
call all_for =
    record {
      arch = word;
      profiles = vector [] refl;
      all_for = all_for;
      members = members.Installed;
      dependents = Source OfTarget;
      versions = Spelled;
      without = vector (other ∷ word ∷ []) refl;
      files = record {
        unless = Some other;
        indexes = vector (word ∷ other ∷ []) refl;
        path = None;
      };
    }

-- the environment has the target, or with `--all-for` another one, if each can be one
environments_given : (environment_given (call None) ≡ environment_with (codes "amd64") [])
    × (environment_given (call (Some other))
    ≡ record { target = codes "b-"; native = codes "amd64"; profiles = [] })
    × (map (λ all_for. has_environment (call all_for)) (None ∷ Some word ∷ Some wildcard ∷ [])
    ≡ true ∷ true ∷ false ∷ [])
unfolding word other wildcard
environments_given = (refl, refl, refl)

files_given : (paths_given (call None) ≡ codes "amd64" ∷ codes "b-" ∷ [])
    × (old_given (call None) ≡ Some (codes "b-")) × (path_given (call None) ≡ None)
    × (scope_with None (names_given (call None))
    ≡ record { packages = []; unless = None; without = codes "b-" ∷ codes "amd64" ∷ [] })
unfolding word other
files_given = (refl, refl, refl, refl)

faults_of_environments : map environment_fault (BadEnvironment ∷ Memory ∷ [])
    ≡ Refused bad_environment ∷ faults.Memory ∷ []
faults_of_environments = refl
