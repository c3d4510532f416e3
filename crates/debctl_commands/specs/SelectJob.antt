-- What the job of `select` answers. Which paragraphs are selected, and what is written of them, is
-- defined in `deb_select`; the order of the files and the statuses are this project's own.
use Rattle.std.specs.Prelude.{◌≡◌, ◌⊎◌, ℕ, ◌+◌, ◌==◌, ◌&&◌, ◌||◌, not, cond, Bool, true, false}
use Rattle.std.specs.Prelude.{List, [], ◌∷◌, ◌++◌, length, map, Option}
use Rattle.std.specs.Prelude.{IfErr, IfOk, Some, Result, Ok, Err, String, string_bytes, codes}
use Rattle.std.specs.Prelude.{refl}
use Rattle.std.specs.Fmt.{decimal, digits}
use Rattle.std.specs.Io.KnownBytes.{Appends}
use Rattle.std.specs.List.{flat_map}
use Rattle.std.specs.Str.{is_utf8, chars}
use lib.Utf8.{encode}
use Rattle.std.specs.declared.alloc.Global.{Global}
use Rattle.deb_base.specs.Bodies.{newline}
use Rattle.deb_base.specs.Devices.{AppendsFront, Puts, write_failures_after}
use Rattle.deb_base.specs.Literals.{string, vector}
use Rattle.deb_base.specs.declared.doc.Doc.TheVariants.{Packages}
use Rattle.deb_base.specs.declared.fault.Fault.{Fault}
use Rattle.deb_base.specs.declared.fault.Fault.TheVariants.{Memory, Write}
use Rattle.deb_control.specs.Calls.{IfRefused}
use Rattle.deb_control.specs.Checking.{IsRefusalOfDocument}
use Rattle.deb_control.specs.Documents.{Accepted, Meaning}
use Rattle.deb_control.specs.Pairs.{Pairwise}
use Rattle.deb_control.specs.ValueFiles.{ValueEntries}
use Rattle.deb_field.specs.Values.{NameMeans, ValueMeaning}
use Rattle.deb_syntax.specs.Answers.{paragraphs_within}
use Rattle.deb_syntax.specs.Lines.{paragraphs_of}
use Rattle.deb_select.specs.Conditions.{selected}
use Rattle.deb_select.specs.Forms.{FormMeaning, JsonLines, NoOutput, TableOf, TheseFields}
use Rattle.deb_select.specs.Forms.{WholeParagraphs}
use Rattle.deb_select.specs.Forms.{begun_after, form_shown, full_in, output}
use Rattle.deb_select.specs.Selecting.{AreFirst, Request, WritesPart, WritesRefused}
use Rattle.deb_select.specs.Selecting.{WritesSelected}
use Rattle.deb_select.specs.Selections.{HasConditions}
use Rattle.deb_select.specs.declared.writing.Outcome.{Outcome}
use Rattle.debctl_args.specs.declared.jobs.OnRefusal.TheVariants.{Stop}
use Rattle.debctl_args.specs.declared.jobs.Picks.TheVariants.{Matching}
use Rattle.debctl_args.specs.declared.jobs.SelectForm.{SelectForm}
use Rattle.debctl_args.specs.declared.jobs.SelectForm.TheVariants.{Control, Jsonl, Table}
use Rattle.debctl_args.specs.declared.jobs.SelectOf.{SelectOf}
use Rattle.debctl_commands.specs.Ending.{EndsBy, RefusesWith}
use Rattle.debctl_commands.specs.FileFaults.{at_role, fault_at, role_among}
use Rattle.debctl_commands.specs.IndexFiles.{RefusesPlace}
use Rattle.debctl_commands.specs.JobDevices.{WriterOfJob, writer_of}
use Rattle.debctl_commands.specs.OpenedFiles.{AreTexts, InOrder, Opener, ReadsMore}
use Rattle.debctl_commands.specs.Opening.{standard_input}
use Rattle.debctl_commands.specs.Reporting.{Report, by_status}
use Rattle.debctl_commands.specs.SelectConditions.{AreConditions, ReportsConditions, TellsBad}
use Rattle.debctl_commands.specs.SelectConditions.{is_negated}
use Rattle.debctl_commands.specs.declared.file_fault.FileFault.{FileFault}
use Rattle.debctl_commands.specs.declared.file_fault.PlaceFault.{PlaceFault}
use Rattle.debctl_commands.specs.declared.file_fault.Role.TheVariants.{Unnamed}
use Rattle.debctl_commands.specs.declared.select_conditions.ConditionsFault.{ConditionsFault}
use Rattle.debctl_commands.specs.declared.select_job.Selector.{Selector}
use Rattle.debctl_commands.specs.declared.select_job.Tally.{Tally}

-- ---- the arguments

-- what is written of each paragraph: with `--count` nothing, and without names whole paragraphs
abbrev pub form_of_control : List (List ℕ) → FormMeaning
form_of_control [] = WholeParagraphs
form_of_control (name ∷ names) = TheseFields (name ∷ names)

abbrev pub form_of : SelectForm → List (List ℕ) → FormMeaning
form_of Control names = form_of_control names
form_of Table names = TableOf names
form_of Jsonl names = JsonLines

abbrev pub form_asked : SelectOf → FormMeaning
form_asked given =
    cond given.count NoOutput (form_of given.form (map string_bytes given.fields.items))

-- the paths of the files: without one, that of standard input
abbrev pub paths_or_input : List (List ℕ) → List (List ℕ)
paths_or_input [] = standard_input ∷ []
paths_or_input (path ∷ paths) = path ∷ paths

abbrev pub paths_asked : SelectOf → List (List ℕ)
paths_asked given = paths_or_input (map string_bytes given.paths.items)

-- The request is that of the arguments.
pub record Asks (given : SelectOf) (asked : Request) : Type 0 where
  pub kind : asked.kind ≡ given.kind
  pub conditions : AreConditions given.kind (map string_bytes given.conditions.items)
      asked.selection.conditions
  pub negated : asked.selection.negated ≡ is_negated given.picks
  pub form : asked.form ≡ form_asked given

-- A selector selects and writes as the request asks.
pub record IsSelector (asked : Request) (selector : Selector) : Type 0 where
  pub has : HasConditions asked.kind asked.selection selector.selection
  pub form : form_shown selector.form ≡ asked.form

-- It does so as the arguments ask.
pub record HasAsked (given : SelectOf) (selector : Selector) : Type 0 where
  pub asked : Request
  pub asks : Asks given asked
  pub is : IsSelector asked selector

-- ---- one file

-- how far the files have come: what was selected of them, and the writers
pub record SoFar (W E : Type 0) : Type 0 where
  pub tally : Tally
  pub out : W
  pub err : E

abbrev pub so_far : {W E : Type 0} → Tally → W → E → SoFar W E
so_far tally out err = record { tally = tally; out = out; err = err }

-- an answer together with the writers
abbrev pub with_writers : {W E X : Type 0} → W → E → Result Tally X → Result (SoFar W E) X
with_writers out err (Ok tally) = Ok (so_far tally out err)
with_writers out err (Err fault) = Err fault

-- the writers after an answer: after a fault these are the last ones
abbrev pub out_after : {W E : Type 0} → W → Result (SoFar W E) Fault → W
out_after last (Ok next) = next.out
out_after last (Err fault) = last

abbrev pub err_after : {W E : Type 0} → E → Result (SoFar W E) Fault → E
err_after last (Ok next) = next.err
err_after last (Err fault) = last

abbrev pub no_file : Tally
no_file = record { count = 0; begun = false; full = true }

-- What was selected of files with one more, of which so much is.
pub record IsTallyAfter (before : Tally) (done : Outcome) (next : Tally) : Type 0 where
  pub count : next.count ≡ before.count + done.count
  pub begun : next.begun ≡ done.begun
  pub full : next.full ≡ (before.full && done.full)

-- the request for the next file
abbrev pub request_after : Request → Tally → Request
request_after asked tally = record asked { begun = tally.begun }

-- The file is accepted, and exactly what is selected of it was written.
pub record SelectsFile {W E : Type 0} (asked : Request) (held : W → Option (List ℕ))
    (text : List ℕ) (before next : SoFar W E) : Type 0 where
  pub done : Outcome
  pub writes : WritesSelected (request_after asked before.tally) text done (held before.out)
      (held next.out)
  pub tally : IsTallyAfter before.tally done next.tally

-- What one more file adds, by its text, where it is known; before a fault a prefix of what is
-- selected of it was written. `last` and `last_err` are the writers after the last file.
pub record AddsSelected {W E : Type 0} (asked : Request) (held : W → Option (List ℕ))
    (failures : W → ℕ) (last : W) (last_err : E) (before : SoFar W E) (left : Option (List ℕ))
    (answer : Result (SoFar W E) Fault) : Type 0 where
  pub ok : (text : List ℕ) → left ≡ Some text → IfOk answer (SelectsFile asked held text before)
  pub refused : (text : List ℕ) → left ≡ Some text →
      IfRefused answer (λ refusal. WritesRefused (request_after asked before.tally) text refusal
      (held before.out) (held last))
  pub front : (text : List ℕ) → left ≡ Some text →
      IfErr answer (λ _. WritesPart (request_after asked before.tally) text (held before.out)
      (held last))
  pub refusal : IfRefused answer IsRefusalOfDocument
  pub counted : failures (out_after last answer)
      ≡ write_failures_after (failures before.out) answer
  pub unreported : err_after last_err answer ≡ before.err

-- ---- all files

-- what files mean together, one after another
abbrev pub joined : List Meaning → Meaning
joined meanings = flat_map (λ meaning. meaning) meanings

-- Each of the files is accepted, and exactly what is selected of all of them, in order, was
-- written.
pub record SelectsFiles (asked : Request) (texts : List (List ℕ)) (tally : Tally)
    (old new : Option (List ℕ)) : Type 0 where
  pub meanings : List Meaning
  pub accepted : Pairwise (Accepted asked.kind) texts meanings
  pub counted : tally.count ≡ length (selected asked.selection (joined meanings))
  pub full : tally.full ≡ full_in asked.form asked.selection (joined meanings)
  pub begun : tally.begun
      ≡ begun_after asked.form false asked.selection (joined meanings)
      (flat_map paragraphs_of texts)
  pub written : Appends old new
      (output asked.form false asked.selection (joined meanings) (flat_map paragraphs_of texts))

-- The first of the files are accepted, and of them and of the first paragraphs of the next one a
-- prefix of what is selected was written.
pub record SelectsFront (asked : Request) (texts : List (List ℕ)) (old new : Option (List ℕ))
    : Type 0 where
  pub before : List (List ℕ)
  pub text : List ℕ
  pub after : List (List ℕ)
  pub are : texts ≡ before ++ text ∷ after
  pub meanings : List Meaning
  pub accepted : Pairwise (Accepted asked.kind) before meanings
  pub first : Meaning
  pub are_first : AreFirst asked.kind text first
  pub written : AppendsFront old new
      (output asked.form false asked.selection (joined meanings ++ first)
      (flat_map paragraphs_of before ++ paragraphs_within text))

-- The files of the paths were opened and read in order, each once, and none after a fault. Where
-- their texts are known, the answer is Ok only if exactly what is selected of them was written, and
-- a refusal only if it is the first one of the first of them that is refused.
pub record SelectsPaths {F R W E : Type 0} (by : Opener F R) (asked : Request)
    (paths : List (List ℕ)) (files files_after : F) (out : WriterOfJob W) (err : WriterOfJob E)
    (answer : Result Tally PlaceFault) : Type 0 where
  pub in_order : InOrder (ReadsMore by (AddsSelected asked out.held out.failures out.new err.new))
      1 paths files (so_far no_file out.old err.old) (with_writers out.new err.new answer)
      files_after
  pub ok : (texts : List (List ℕ)) → AreTexts (by.text files) paths texts →
      IfOk answer (λ tally. SelectsFiles asked texts tally (out.held out.old) (out.held out.new))
  pub refused : (texts : List (List ℕ)) → AreTexts (by.text files) paths texts →
      IfErr answer (RefusesPlace asked.kind texts)
  pub front : (texts : List (List ℕ)) → AreTexts (by.text files) paths texts →
      IfErr answer (λ _. SelectsFront asked texts (out.held out.old) (out.held out.new))

-- ---- the answer

-- what is written after all files
abbrev pub count_text : Bool → ℕ → List ℕ
count_text asked count = cond asked (decimal count ++ newline ∷ []) []

-- After all files the count was written, if it is asked, or a prefix of it before a failed write;
-- after a fault nothing was.
pub record PutsCount {W : Type 0} (asked : Bool) (tally : Tally) (out : WriterOfJob W)
    (answer : Result Tally FileFault) : Type 0 where
  pub put : Result Tally Fault
  pub is : answer ≡ at_role Unnamed put
  pub same : IfOk put (λ same. same ≡ tally)
  pub fault : IfErr put (λ fault. fault ≡ Write)
  pub written : Puts (out.held out.old) (out.held out.new) put (count_text asked tally.count)
  pub counted : out.failures out.new ≡ write_failures_after (out.failures out.old) put

abbrev pub EndsCount : {W : Type 0} → Bool → ℕ → Result Tally PlaceFault → WriterOfJob W
    → Result Tally FileFault → Type 0
EndsCount asked files (Ok tally) out answer = PutsCount asked tally out answer
EndsCount asked files (Err told) out answer =
    (answer ≡ Err (fault_at (role_among Unnamed files told.place) told.fault))
    × (out.new ≡ out.old)

-- What an answer of the job says: what was selected of the files, and then of the count.
pub record SelectsAll {F R W E : Type 0} (by : Opener F R) (given : SelectOf) (asked : Request)
    (files files_after : F) (out : WriterOfJob W) (err : WriterOfJob E)
    (answer : Result Tally FileFault) : Type 0 where
  pub read : Result Tally PlaceFault
  pub between : W
  pub selects : SelectsPaths by asked (paths_asked given) files files_after
      (writer_of out.held out.failures out.old between) err read
  pub ends : EndsCount given.count (length (paths_asked given)) read
      (writer_of out.held out.failures between out.new) answer

-- 0 if something is selected, and if that is asked has all the fields of the table; else 1
abbrev pub tally_status : Bool → Tally → ℕ
tally_status strict tally = cond ((tally.count == 0) || (strict && not tally.full)) 1 0

abbrev pub tally_report : Bool → Tally → Report
tally_report strict tally = by_status (tally_status strict tally)

-- There is an answer to the request, and it is reported after what was written on `err` while the
-- files were read.
pub record EndsAsked {F R W E : Type 0} (by : Opener F R) (given : SelectOf) (asked : Request)
    (files files_after : F) (out : WriterOfJob W) (err : WriterOfJob E) (status : ℕ) : Type 0 where
  pub between : E
  pub ends : EndsBy (tally_report given.strict)
      (SelectsAll by given asked files files_after out
      (writer_of err.held err.failures err.old between))
      (writer_of err.held err.failures between err.new) status

-- The conditions aren't good, or take too much memory: that is reported, no file was opened, and
-- nothing was written.
pub record FailsAtConditions {F W E : Type 0} (given : SelectOf) (files files_after : F)
    (out : WriterOfJob W) (err : WriterOfJob E) (status : ℕ) : Type 0 where
  pub fault : ConditionsFault
  pub tells : TellsBad given.kind (map string_bytes given.conditions.items) fault
  pub reports : ReportsConditions err.held err.failures err.old err.new fault status
  pub unopened : files_after ≡ files
  pub unwritten : out.new ≡ out.old

-- Whatever the status.
abbrev pub ReportsSelect : {F R W E : Type 0} → Opener F R → SelectOf → F → F → WriterOfJob W
    → WriterOfJob E → ℕ → Type 0
ReportsSelect by given files files_after out err status =
    FailsAtConditions given files files_after out err status
    ⊎ ((asked : Request) × Asks given asked
    × EndsAsked by given asked files files_after out err status)

-- Status 0 and 1: all files were read, what is selected of them was written, and that has this
-- status.
pub record SaysSelect {F R W E : Type 0} (by : Opener F R) (given : SelectOf)
    (files files_after : F) (out : WriterOfJob W) (err : WriterOfJob E) (status : ℕ) : Type 0 where
  pub asked : Request
  pub asks : Asks given asked
  pub tally : Tally
  pub is : status ≡ tally_status given.strict tally
  pub says : SelectsAll by given asked files files_after out err (Ok tally)

-- Status 2: a file is refused, and exactly the refusal's line was written on `err`.
pub record RefusesSelect {F R W E : Type 0} (by : Opener F R) (given : SelectOf)
    (files files_after : F) (out : WriterOfJob W) (err : WriterOfJob E) : Type 0 where
  pub asked : Request
  pub asks : Asks given asked
  pub between : E
  pub refuses : RefusesWith
      (SelectsAll by given asked files files_after out
      (writer_of err.held err.failures err.old between))
      (writer_of err.held err.failures between err.new)

-- ---- worked cases

-- for the worked cases: the arguments of a call
abbrev name : String Global
unfolding is_utf8 chars encode
name = string (codes "a1") refl refl

abbrev call : SelectForm → Bool → SelectOf
call form count =
    record {
      kind = Packages;
      conditions = vector [] refl;
      picks = Matching;
      on_refusal = Stop;
      fields = vector (name ∷ []) refl;
      form = form;
      strict = false;
      count = count;
      paths = vector [] refl;
    }

forms_asked : (form_asked (call Control false) ≡ TheseFields (codes "a1" ∷ []))
    × (form_asked (call Table false) ≡ TableOf (codes "a1" ∷ []))
    × (form_asked (call Jsonl false) ≡ JsonLines) × (form_asked (call Control true) ≡ NoOutput)
    × (form_of Control [] ≡ WholeParagraphs)
unfolding name
forms_asked = (refl, refl, refl, refl, refl)

-- for the worked cases: a paragraph, and a request for all
abbrev aa : ValueEntries ValueMeaning
aa = (codes "Package", NameMeans (codes "aa")) ∷ []

abbrev all_of : Bool → Request
all_of begun = record {
  kind = Packages;
  selection = record { conditions = []; negated = false };
  form = NoOutput;
  begun = begun;
}

meanings_joined : joined ((aa ∷ []) ∷ [] ∷ (aa ∷ aa ∷ []) ∷ []) ≡ aa ∷ aa ∷ aa ∷ []
meanings_joined = refl

-- without a path standard input is read
paths_read : (paths_asked (call Control false) ≡ codes "-" ∷ [])
    × (paths_or_input (codes "b" ∷ codes "-" ∷ []) ≡ codes "b" ∷ codes "-" ∷ [])
paths_read = (refl, refl)

-- the writers after a file are its own, and after a fault the last ones
writers_after : (out_after {W = ℕ} {E = ℕ} 7 (Ok (so_far no_file 5 6)) ≡ 5)
    × (out_after {W = ℕ} {E = ℕ} 7 (Err Memory) ≡ 7)
    × (err_after {W = ℕ} {E = ℕ} 7 (Ok (so_far no_file 5 6)) ≡ 6)
    × (err_after {W = ℕ} {E = ℕ} 7 (Err Memory) ≡ 7)
    × (with_writers {W = ℕ} {E = ℕ} {X = Fault} 5 6 (Ok no_file) ≡ Ok (so_far no_file 5 6))
    × (with_writers {W = ℕ} {E = ℕ} {X = Fault} 5 6 (Err Memory) ≡ Err Memory)
writers_after = (refl, refl, refl, refl, refl, refl)

-- a file goes on where the one before it ended
requests_after : (request_after (all_of false) (record no_file { begun = true }) ≡ all_of true)
    × (request_after (all_of true) no_file ≡ all_of false)
requests_after = (refl, refl)

counts_written : (count_text true 12 ≡ codes "12\n") × (count_text false 12 ≡ [])
unfolding digits
counts_written = (refl, refl)

-- a gap of a table counts only where that is asked
statuses_of_tallies : (tally_status false no_file ≡ 1)
    × (tally_status true (record { count = 2; begun = true; full = true }) ≡ 0)
    × (tally_status true (record { count = 2; begun = true; full = false }) ≡ 1)
    × (tally_status false (record { count = 2; begun = true; full = false }) ≡ 0)
    × (tally_report false no_file ≡ by_status 1)
statuses_of_tallies = (refl, refl, refl, refl, refl)
