-- What the job of `select --accepted` answers: it goes on after what is refused. Which paragraphs
-- pass, and what is written of a file, is defined in `deb_select`; the order of the files and the
-- statuses are this project's own.
use Rattle.std.specs.Prelude.{◌≡◌, ◌⊎◌, ℕ, ◌+◌, ◌==◌, ◌||◌, not, cond, Bool, true, false, List}
use Rattle.std.specs.Prelude.{length, Option, None, Some, IfErr, IfOk, Result, Ok, Err, refl}
use Rattle.deb_base.specs.Devices.{AppendsFront, Puts, write_failures_after}
use Rattle.deb_base.specs.declared.fault.Fault.{Fault}
use Rattle.deb_base.specs.declared.fault.Fault.TheVariants.{Memory, Write}
use Rattle.deb_control.specs.AllRefusals.{file_lines}
use Rattle.deb_control.specs.WrittenRefusals.{IsNoRefusal, WritesAll}
use Rattle.deb_select.specs.Accepting.{CountsWriteFailure, SinkFailures, WritesAccepted}
use Rattle.deb_select.specs.Accepting.{WritesPartAccepted, sink_failures}
use Rattle.deb_select.specs.Selecting.{Request}
use Rattle.deb_select.specs.declared.accepting.Accepted.{Accepted}
use Rattle.debctl_args.specs.declared.jobs.SelectOf.{SelectOf}
use Rattle.debctl_commands.specs.Ending.{EndsBy}
use Rattle.debctl_commands.specs.FileFaults.{at_role, fault_at, role_among}
use Rattle.debctl_commands.specs.JobDevices.{WriterOfJob, writer_of}
use Rattle.debctl_commands.specs.OpenedFiles.{InOrder, Opener, ReadsMore}
use Rattle.debctl_commands.specs.Reporting.{Report, by_status}
use Rattle.debctl_commands.specs.SelectJob.{Asks, FailsAtConditions, IsTallyAfter, count_text}
use Rattle.debctl_commands.specs.SelectJob.{no_file, paths_asked, request_after, tally_status}
use Rattle.debctl_commands.specs.declared.file_fault.FileFault.{FileFault}
use Rattle.debctl_commands.specs.declared.file_fault.PlaceFault.{PlaceFault}
use Rattle.debctl_commands.specs.declared.file_fault.Role.TheVariants.{Unnamed}
use Rattle.debctl_commands.specs.declared.select_accepted_job.Total.{Total}

-- ---- one file

-- how far the files have come: what was selected of them, and the writers
pub record ReadSoFar (W E : Type 0) : Type 0 where
  pub total : Total
  pub out : W
  pub err : E

abbrev pub read_so_far : {W E : Type 0} → Total → W → E → ReadSoFar W E
read_so_far total out err = record { total = total; out = out; err = err }

-- an answer together with the writers
abbrev pub with_both : {W E X : Type 0} → W → E → Result Total X → Result (ReadSoFar W E) X
with_both out err (Ok total) = Ok (read_so_far total out err)
with_both out err (Err fault) = Err fault

-- how often both writers have failed after an answer: after a fault they are the last ones
abbrev pub failed_after : {W E : Type 0} → WriterOfJob W → WriterOfJob E
    → Result (ReadSoFar W E) Fault → SinkFailures
failed_after out err (Ok next) = sink_failures (out.failures next.out) (err.failures next.err)
failed_after out err (Err fault) = sink_failures (out.failures out.new) (err.failures err.new)

abbrev pub nothing_read : Total
nothing_read = record { selected = no_file; refused = false }

-- whether something is refused, where so many more runs of lines are
abbrev pub refused_with : Bool → ℕ → Bool
refused_with before more = before || not (more == 0)

-- What was selected of files with one more, of which so much is.
pub record IsTotalAfter (before : Total) (done : Accepted) (next : Total) : Type 0 where
  pub selected : IsTallyAfter before.selected done.outcome next.selected
  pub refused : next.refused ≡ refused_with before.refused done.summary.refused

-- Exactly what is selected of the paragraphs of a file that pass was written, and exactly the lines
-- of what is refused.
pub record AcceptsFile {W E : Type 0} (asked : Request) (out : WriterOfJob W) (err : WriterOfJob E)
    (text : List ℕ) (before next : ReadSoFar W E) : Type 0 where
  pub done : Accepted
  pub writes : WritesAccepted (request_after asked before.total.selected) text done.outcome
      (out.held before.out) (out.held next.out)
  pub reports : WritesAll asked.kind text done.summary (err.held before.err) (err.held next.err)
  pub total : IsTotalAfter before.total done next.total

-- Of what is selected a prefix was written, and a prefix of the lines of what is refused.
pub record AcceptsPart {W E : Type 0} (asked : Request) (out : WriterOfJob W) (err : WriterOfJob E)
    (text : List ℕ) (before : ReadSoFar W E) : Type 0 where
  pub written : WritesPartAccepted (request_after asked before.total.selected) text
      (out.held before.out) (out.held out.new)
  pub reported : AppendsFront (err.held before.err) (err.held err.new) (file_lines asked.kind text)

-- What one more file adds, by its text, where it is known. No fault is a refusal. `out` and `err`
-- have the writers after the last file.
pub record AddsAccepted {W E : Type 0} (asked : Request) (out : WriterOfJob W)
    (err : WriterOfJob E) (before : ReadSoFar W E) (left : Option (List ℕ))
    (answer : Result (ReadSoFar W E) Fault) : Type 0 where
  pub ok : (text : List ℕ) → left ≡ Some text →
      IfOk answer (AcceptsFile asked out err text before)
  pub front : (text : List ℕ) → left ≡ Some text →
      IfErr answer (λ _. AcceptsPart asked out err text before)
  pub fault : IfErr answer IsNoRefusal
  pub counted : CountsWriteFailure
      (sink_failures (out.failures before.out) (err.failures before.err))
      (failed_after out err answer) answer

-- ---- the answer

-- After all files the count was written, if it is asked, or a prefix of it before a failed write;
-- after a fault nothing was.
pub record PutsTotal {W : Type 0} (asked : Bool) (total : Total) (out : WriterOfJob W)
    (answer : Result Total FileFault) : Type 0 where
  pub put : Result Total Fault
  pub is : answer ≡ at_role Unnamed put
  pub same : IfOk put (λ same. same ≡ total)
  pub fault : IfErr put (λ fault. fault ≡ Write)
  pub written : Puts (out.held out.old) (out.held out.new) put
      (count_text asked total.selected.count)
  pub counted : out.failures out.new ≡ write_failures_after (out.failures out.old) put

abbrev pub EndsTotal : {W : Type 0} → Bool → ℕ → Result Total PlaceFault → WriterOfJob W
    → Result Total FileFault → Type 0
EndsTotal asked files (Ok total) out answer = PutsTotal asked total out answer
EndsTotal asked files (Err at) out answer =
    (answer ≡ Err (fault_at (role_among Unnamed files at.place) at.fault)) × (out.new ≡ out.old)

-- What an answer of the job says: the files were opened and read in order, each once, and none
-- after a fault; what was written of each; and then the count.
pub record AcceptsAll {F R W E : Type 0} (by : Opener F R) (given : SelectOf) (asked : Request)
    (files files_after : F) (out : WriterOfJob W) (err : WriterOfJob E)
    (answer : Result Total FileFault) : Type 0 where
  pub read : Result Total PlaceFault
  pub between : W
  pub in_order : InOrder
      (ReadsMore by (AddsAccepted asked (writer_of out.held out.failures out.old between) err)) 1
      (paths_asked given) files (read_so_far nothing_read out.old err.old)
      (with_both between err.new read) files_after
  pub ends : EndsTotal given.count (length (paths_asked given)) read
      (writer_of out.held out.failures between out.new) answer

-- 2 if something is refused, else as without that
abbrev pub accepted_status : Bool → Total → ℕ
accepted_status strict total = cond total.refused 2 (tally_status strict total.selected)

abbrev pub total_report : Bool → Total → Report
total_report strict total = by_status (accepted_status strict total)

-- There is an answer to the request, and it is reported after what was written on `err` while the
-- files were read.
pub record EndsAccepted {F R W E : Type 0} (by : Opener F R) (given : SelectOf) (asked : Request)
    (files files_after : F) (out : WriterOfJob W) (err : WriterOfJob E) (status : ℕ) : Type 0 where
  pub between : E
  pub ends : EndsBy (total_report given.strict)
      (AcceptsAll by given asked files files_after out
      (writer_of err.held err.failures err.old between))
      (writer_of err.held err.failures between err.new) status

-- Whatever the status.
abbrev pub ReportsAccepted : {F R W E : Type 0} → Opener F R → SelectOf → F → F → WriterOfJob W
    → WriterOfJob E → ℕ → Type 0
ReportsAccepted by given files files_after out err status =
    FailsAtConditions given files files_after out err status
    ⊎ ((asked : Request) × Asks given asked
    × EndsAccepted by given asked files files_after out err status)

-- Status 0 to 2: all files were read, what is selected of the paragraphs that pass was written, and
-- that has this status.
pub record SaysAccepted {F R W E : Type 0} (by : Opener F R) (given : SelectOf)
    (files files_after : F) (out : WriterOfJob W) (err : WriterOfJob E) (status : ℕ) : Type 0 where
  pub asked : Request
  pub asks : Asks given asked
  pub total : Total
  pub is : status ≡ accepted_status given.strict total
  pub says : AcceptsAll by given asked files files_after out err (Ok total)

-- ---- worked cases

-- for the worked cases: so many were selected, and some lines refused or none
abbrev total_of : ℕ → Bool → Total
total_of count refused =
    record { selected = record { count = count; begun = true; full = false }; refused = refused }

statuses_of_totals : (accepted_status false (total_of 2 false) ≡ 0)
    × (accepted_status true (total_of 2 false) ≡ 1)
    × (accepted_status false nothing_read ≡ 1) × (accepted_status false (total_of 2 true) ≡ 2)
    × (total_report true (total_of 0 true) ≡ by_status 2)
statuses_of_totals = (refl, refl, refl, refl, refl)

-- refused lines stay refused, and others are added
refusals_of_files : (refused_with false 0 ≡ false) × (refused_with false 2 ≡ true)
    × (refused_with true 0 ≡ true)
refusals_of_files = (refl, refl, refl)

-- for the worked cases: writers whose counts of failed calls are one and two more than their number
abbrev out_at : ℕ → WriterOfJob ℕ
out_at new = writer_of (λ n. None) (λ n. n + 1) 3 new

abbrev err_at : ℕ → WriterOfJob ℕ
err_at new = writer_of (λ n. None) (λ n. n + 2) 5 new

-- the writers after a file are its own, and after a fault the last ones
writers_after : (failed_after (out_at 4) (err_at 6) (Ok (read_so_far nothing_read 10 20))
    ≡ sink_failures 11 22)
    × (failed_after (out_at 4) (err_at 6) (Err Memory) ≡ sink_failures 5 8)
    × (with_both {W = ℕ} {E = ℕ} {X = Fault} 5 6 (Ok nothing_read)
    ≡ Ok (read_so_far nothing_read 5 6))
    × (with_both {W = ℕ} {E = ℕ} {X = Fault} 5 6 (Err Memory) ≡ Err Memory)
writers_after = (refl, refl, refl, refl)
