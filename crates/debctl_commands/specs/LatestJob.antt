-- What the job of `latest` answers. Which paragraphs have the latest versions, and what is written
-- of them, is defined in `deb_latest`; that the files are read twice, in order, is this project's
-- own.
use Rattle.std.specs.Prelude.{◌≡◌, ◌⊎◌, ℕ, ⊤, List, [], ◌∷◌, length, map, Option, Some, None, Result, Ok, Err}
use Rattle.std.specs.Prelude.{IfErr, IfOk, String, string_bytes, codes, refl}
use Rattle.std.specs.Io.KnownBytes.{Appends}
use Rattle.std.specs.Option.{option_map}
use Rattle.std.specs.Str.{is_utf8, chars}
use lib.Utf8.{encode}
use Rattle.std.specs.declared.alloc.Global.{Global}
use Rattle.deb_base.specs.Devices.{AppendsFront, write_failures_after}
use Rattle.deb_base.specs.Faults.{IsReadersFault, MatchFault}
use Rattle.deb_base.specs.Literals.{string, vector}
use Rattle.deb_base.specs.declared.code.Code.TheVariants.{NoColon}
use Rattle.deb_base.specs.declared.fault.Fault.{Fault}
use Rattle.deb_base.specs.declared.fault.Fault.TheVariants.{Memory, Read, Refused, Write}
use Rattle.deb_version.specs.Grammar.{SpellsVersion}
use Rattle.deb_version.specs.Parts.{Meaning as Version}
use Rattle.deb_control.specs.Calls.{IfRefused}
use Rattle.deb_control.specs.Checking.{IsRefusalOfDocument}
use Rattle.deb_control.specs.Documents.{Meaning, refusal_of}
use Rattle.deb_syntax.specs.Lines.{Paragraph, paragraphs_of}
use Rattle.deb_latest.specs.Entries.{doc_of}
use Rattle.deb_latest.specs.Files.{FilesMean, latest_text}
use Rattle.deb_latest.specs.Reads.{HasRead, ReadsFile, kind_of}
use Rattle.deb_latest.specs.Requests.{Asked, latest_of}
use Rattle.deb_latest.specs.Writes.{HasWritten, WritesFile}
use Rattle.deb_latest.specs.Written.{text_after}
use Rattle.deb_latest.specs.declared.kind.Kind.{Kind}
use Rattle.deb_latest.specs.declared.kind.Kind.TheVariants as kinds
use Rattle.deb_latest.specs.declared.latest.Latest.{Latest}
use Rattle.deb_latest.specs.declared.request.By.{By}
use Rattle.deb_latest.specs.declared.request.By.TheVariants as bys
use Rattle.deb_latest.specs.declared.winners.Winners.{Winners}
use Rattle.debctl_args.specs.declared.jobs.LatestBy.{LatestBy}
use Rattle.debctl_args.specs.declared.jobs.LatestBy.TheVariants.{Name, NameAndArchitecture}
use Rattle.debctl_args.specs.declared.jobs.LatestKind.{LatestKind}
use Rattle.debctl_args.specs.declared.jobs.LatestKind.TheVariants.{Packages, Sources}
use Rattle.debctl_args.specs.declared.jobs.LatestOf.{LatestOf}
use Rattle.debctl_commands.specs.FileFaults.{at_role, fault_at, role_among}
use Rattle.debctl_commands.specs.IndexFiles.{RefusesPlace}
use Rattle.debctl_commands.specs.JobDevices.{WriterOfJob}
use Rattle.debctl_commands.specs.OpenedFiles.{AreTexts, InOrder, OpensFile, Opener, ReadsMore, TakesFor}
use Rattle.debctl_commands.specs.Turns.{InTurn}
use Rattle.debctl_commands.specs.VersionJobs.{IsNoVersion, bad_version}
use Rattle.debctl_commands.specs.declared.file_fault.FileFault.{FileFault}
use Rattle.debctl_commands.specs.declared.file_fault.PlaceFault.{PlaceFault}
use Rattle.debctl_commands.specs.declared.file_fault.Role.TheVariants.{Unnamed}

-- ---- the arguments

abbrev pub kind_asked : LatestKind → Kind
kind_asked Packages = kinds.Packages
kind_asked Sources = kinds.Sources

abbrev pub by_asked : LatestBy → By
by_asked Name = bys.Name
by_asked NameAndArchitecture = bys.NameAndArchitecture

abbrev pub paths_asked : LatestOf → List (List ℕ)
paths_asked given = map string_bytes given.paths.items

abbrev pub before_asked : LatestOf → Option (List ℕ)
before_asked given = option_map string_bytes given.before

-- what is asked, where only versions before this one are considered, if there is one
abbrev pub latest_asked : LatestOf → Option Version → Asked
latest_asked given limit =
    record { kind = kind_asked given.kind; by = by_asked given.by; limit = limit }

-- The text that is given spells the version; without one there is none.
abbrev pub SpellsLimit : Option (List ℕ) → Option Version → Type 0
SpellsLimit None None = Unit {0}
SpellsLimit None (Some limit) = ⊥
SpellsLimit (Some text) None = ⊥
SpellsLimit (Some text) (Some limit) = SpellsVersion text limit

-- A text is given that spells no version.
abbrev pub RefusesLimit : Option (List ℕ) → Type 0
RefusesLimit None = ⊥
RefusesLimit (Some text) = IsNoVersion text

-- ---- the first pass

-- What one more file adds to what was read, by the file's text, where it is known.
pub record AddsLatest (latest : Latest) (left : Option (List ℕ)) (answer : Result Latest Fault)
    : Type 0 where
  pub ok : (asked : Asked) (before : Meaning) (text : List ℕ) → HasRead asked before latest
      → left ≡ Some text → IfOk answer (ReadsFile asked before text)
  pub refused : (text : List ℕ) → left ≡ Some text →
      IfRefused answer (λ refusal. refusal_of (doc_of (kind_of latest)) text ≡ Some refusal)
  pub kind : IfOk answer (λ more. kind_of more ≡ kind_of latest)
  pub fault : IfErr answer (λ fault. IsReadersFault fault IsRefusalOfDocument)

-- What the files mean together, and which of their paragraphs are to be written, of which none is.
pub record HasLatest (asked : Asked) (texts : List (List ℕ)) (winners : Winners) : Type 0 where
  pub meaning : Meaning
  pub mean : FilesMean asked.kind texts meaning
  pub has : HasWritten (latest_of asked meaning) (length meaning) [] winners

-- The answer of the first pass is what was read, unless memory is refused for it.
abbrev pub FollowsRead : Result Latest PlaceFault → Result Winners PlaceFault → Type 0
FollowsRead (Ok latest) (Ok winners) = Unit {0}
FollowsRead (Ok latest) (Err told) = told.fault ≡ Memory
FollowsRead (Err failed) answer = answer ≡ Err failed

-- The files were opened and read in order, each once, beginning with what is known of no file; or
-- memory was refused for that, and none was opened.
abbrev pub ReadsLatest : {F R : Type 0} → Opener F R → Asked → List (List ℕ) → F
    → Result Winners PlaceFault → F → Type 0
ReadsLatest by asked paths files answer files_after =
    ((answer ≡ Err (record { place = 1; fault = Memory })) × (files_after ≡ files))
    ⊎ ((none : Latest) × (read : Result Latest PlaceFault) × HasRead asked [] none
    × (kind_of none ≡ asked.kind)
    × InOrder (ReadsMore by AddsLatest) 1 paths files none read files_after
    × FollowsRead read answer)

-- The files were read, and these are their paragraphs with the latest versions.
pub record FindsLatest {F R : Type 0} (by : Opener F R) (asked : Asked) (paths : List (List ℕ))
    (winners : Winners) (files files_after : F) : Type 0 where
  pub in_order : ReadsLatest by asked paths files (Ok winners) files_after
  pub has : (texts : List (List ℕ)) → AreTexts (by.text files) paths texts →
      HasLatest asked texts winners
  pub unchanged : by.text files_after ≡ by.text files

-- One of them is refused, can't be opened or read, or takes too much memory, and none was opened
-- after it.
pub record FailsToFind {F R : Type 0} (by : Opener F R) (asked : Asked) (paths : List (List ℕ))
    (told : PlaceFault) (files files_after : F) : Type 0 where
  pub in_order : ReadsLatest by asked paths files (Err told) files_after
  pub refused : (texts : List (List ℕ)) → AreTexts (by.text files) paths texts →
      RefusesPlace (doc_of asked.kind) texts told
  pub fault : IsReadersFault told.fault IsRefusalOfDocument

abbrev pub AnswersLatest : {F R : Type 0} → Opener F R → Asked → List (List ℕ) → F
    → Result Winners PlaceFault → F → Type 0
AnswersLatest by asked paths files (Ok winners) files_after =
    FindsLatest by asked paths winners files files_after
AnswersLatest by asked paths files (Err told) files_after =
    FailsToFind by asked paths told files files_after

-- ---- the second pass

-- A file that is refused now has changed since it was read: that is a failed read.
abbrev pub unless_changed : Result ⊤ Fault → Result ⊤ Fault
unless_changed (Ok done) = Ok done
unless_changed (Err (Refused refusal)) = Err Read
unless_changed (Err Memory) = Err Memory
unless_changed (Err Read) = Err Read
unless_changed (Err Write) = Err Write

-- What is written of one more file, by the file's text, where it is known: the chosen ones of its
-- paragraphs, or before a fault a prefix of these.
pub record WritesChosen {W : Type 0} (left : Option (List ℕ)) (winners winners_after : Winners)
    (held : W → Option (List ℕ)) (failures : W → ℕ) (out out_after : W)
    (answer : Result ⊤ Fault) : Type 0 where
  pub ok : (numbers : List ℕ) (count : ℕ) (before : List Paragraph) (text : List ℕ)
      → HasWritten numbers count before winners → left ≡ Some text
      → IfOk answer (λ _. WritesFile numbers count before text winners_after (held out)
      (held out_after))
  pub front : (numbers : List ℕ) (count : ℕ) (before : List Paragraph) (text : List ℕ)
      → HasWritten numbers count before winners → left ≡ Some text
      → IfErr answer (λ _. AppendsFront (held out) (held out_after)
      (text_after numbers before (paragraphs_of text)))
  pub counted : failures out_after ≡ write_failures_after (failures out) answer

-- the status of a step of the second pass: it is always 0
abbrev pub step_status : Result ⊤ Fault → Result ℕ Fault
step_status (Ok done) = Ok 0
step_status (Err fault) = Err fault

-- The file of a path was opened and read again, and written so; or it couldn't be opened, and
-- nothing of it was written. `state` is what is to be written, and the writer.
pub record WritesPath {F R W : Type 0} (by : Opener F R) (held : W → Option (List ℕ))
    (failures : W → ℕ) (path : List ℕ) (files : F) (state : Winners × W)
    (status : Result ℕ Fault) (files_after : F) (state_after : Winners × W) : Type 0 where
  pub answer : Result ⊤ Fault
  pub is : status ≡ step_status (unless_changed answer)
  pub opens : OpensFile by path
      (λ reader rest. TakesFor by answer reader rest
      × WritesChosen (by.left reader) state.0 state_after.0 held failures state.1 state_after.1
      answer)
      ((answer ≡ Err Read) × (state_after ≡ state)) files files_after

-- The files were opened and read again in order, each once, and those with the latest versions were
-- written; all of them, if there are as many paragraphs as before, and else that is a failed read.
pub record WritesAgain {F R W : Type 0} (by : Opener F R) (paths : List (List ℕ))
    (winners : Winners) (files files_after : F) (out : WriterOfJob W) (answer : Result ⊤ Fault)
    : Type 0 where
  pub status : Result ℕ Fault
  pub rest : Winners
  pub in_turn : InTurn (WritesPath by out.held out.failures) paths files (winners, out.old) status
      files_after (rest, out.new)
  pub failed : IfErr status (λ fault. answer ≡ Err fault)
  pub done : IfOk status (λ _. IfErr answer (λ fault. fault ≡ Read))

-- ---- the answer

-- Exactly the paragraphs with the latest versions were written, or a prefix of that.
pub record WritesLatest (asked : Asked) (texts : List (List ℕ)) (old new : Option (List ℕ))
    : Type 0 where
  pub meaning : Meaning
  pub mean : FilesMean asked.kind texts meaning
  pub written : Appends old new (latest_text asked meaning texts)

pub record WritesFront (asked : Asked) (texts : List (List ℕ)) (old new : Option (List ℕ))
    : Type 0 where
  pub meaning : Meaning
  pub mean : FilesMean asked.kind texts meaning
  pub written : AppendsFront old new (latest_text asked meaning texts)

-- The text of `--before` is no version: no file was opened, and nothing was written.
pub record FailsAtLimit {F W : Type 0} (before : Option (List ℕ)) (files files_after : F)
    (out : WriterOfJob W) (answer : Result ⊤ FileFault) : Type 0 where
  pub none : RefusesLimit before
  pub is : answer ≡ Err (fault_at Unnamed (Refused bad_version))
  pub unopened : files_after ≡ files
  pub unwritten : out.new ≡ out.old

-- The job ends in the first pass, and nothing was written.
pub record FailsAtFiles {F R W : Type 0} (by : Opener F R) (asked : Asked)
    (paths : List (List ℕ)) (files files_after : F) (out : WriterOfJob W)
    (answer : Result ⊤ FileFault) : Type 0 where
  pub told : PlaceFault
  pub is : answer ≡ Err (fault_at (role_among Unnamed (length paths) told.place) told.fault)
  pub fails : FailsToFind by asked paths told files files_after
  pub unwritten : out.new ≡ out.old

-- The files were read twice. Where their texts are known, the answer is Ok only if exactly the
-- paragraphs with the latest versions were written, and after any fault a prefix of that was. It is
-- no refusal.
pub record WritesFiles {F R W : Type 0} (by : Opener F R) (asked : Asked)
    (paths : List (List ℕ)) (files files_after : F) (out : WriterOfJob W)
    (answer : Result ⊤ FileFault) : Type 0 where
  pub winners : Winners
  pub between : F
  pub finds : FindsLatest by asked paths winners files between
  pub written : Result ⊤ Fault
  pub is : answer ≡ at_role Unnamed written
  pub again : WritesAgain by paths winners between files_after out written
  pub ok : (texts : List (List ℕ)) → AreTexts (by.text files) paths texts →
      IfOk written (λ _. WritesLatest asked texts (out.held out.old) (out.held out.new))
  pub front : (texts : List (List ℕ)) → AreTexts (by.text files) paths texts →
      IfErr written (λ _. WritesFront asked texts (out.held out.old) (out.held out.new))
  pub fault : IfErr written (λ fault. MatchFault fault (λ _. ⊥) (Unit {0}) (Unit {0}) (Unit {0}))
  pub counted : out.failures out.new ≡ write_failures_after (out.failures out.old) written

abbrev pub AsksFiles : {F R W : Type 0} → Opener F R → Asked → List (List ℕ) → F → F
    → WriterOfJob W → Result ⊤ FileFault → Type 0
AsksFiles by asked paths files files_after out answer =
    FailsAtFiles by asked paths files files_after out answer
    ⊎ WritesFiles by asked paths files files_after out answer

-- What an answer of the job says.
abbrev pub AsksLatest : {F R W : Type 0} → Opener F R → LatestOf → F → F → WriterOfJob W
    → Result ⊤ FileFault → Type 0
AsksLatest by given files files_after out answer =
    FailsAtLimit (before_asked given) files files_after out answer
    ⊎ ((limit : Option Version) × SpellsLimit (before_asked given) limit
    × AsksFiles by (latest_asked given limit) (paths_asked given) files files_after out answer)

-- ---- worked cases

kinds_asked : (map kind_asked (Packages ∷ Sources ∷ []) ≡ kinds.Packages ∷ kinds.Sources ∷ [])
    × (map by_asked (Name ∷ NameAndArchitecture ∷ []) ≡ bys.Name ∷ bys.NameAndArchitecture ∷ [])
kinds_asked = (refl, refl)

abbrev word : String Global
unfolding is_utf8 chars encode
word = string (codes "a1") refl refl

-- for the worked cases: the arguments of a call
abbrev call : Option (String Global) → LatestOf
call before =
    record {
      kind = Sources;
      by = NameAndArchitecture;
      before = before;
      paths = vector (word ∷ []) refl;
    }

arguments_asked : (paths_asked (call None) ≡ codes "a1" ∷ [])
    × (before_asked (call None) ≡ None) × (before_asked (call (Some word)) ≡ Some (codes "a1"))
    × (latest_asked (call None) None
    ≡ record { kind = kinds.Sources; by = bys.NameAndArchitecture; limit = None })
unfolding word
arguments_asked = (refl, refl, refl, refl)

-- without a text there is no limit, and none is refused
limits_asked : SpellsLimit None None × (RefusesLimit None ≡ ⊥)
    × ((text : List ℕ) → RefusesLimit (Some text) → IsNoVersion text)
limits_asked = (tt, refl, λ text none. none)

-- a file that has changed is reported as a failed read, and other answers stay
changed_files : (unless_changed (Err (Refused (record { code = NoColon; line = 1 }))) ≡ Err Read)
    × (unless_changed (Ok tt) ≡ Ok tt) × (unless_changed (Err Memory) ≡ Err Memory)
    × (step_status (Ok tt) ≡ Ok 0) × (step_status (Err Write) ≡ Err Write)
changed_files = (refl, refl, refl, refl, refl)
