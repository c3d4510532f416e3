-- What a job promises, said once: its answers, how each is reported, and what each says of the
-- readers and of the writer. What each status says follows from that.
use Rattle.std.specs.Prelude.{◌≡◌, ℕ, Bool, List, Option, Result, Ok, Err}
use Rattle.std.specs.Io.KnownBytes.{Appends}
use Rattle.deb_base.specs.Lines.{fault_line}
use Rattle.deb_base.specs.declared.fault.Fault.{Fault}
use Rattle.deb_base.specs.declared.fault.Fault.TheVariants.{Refused}
use Rattle.deb_base.specs.declared.refusal.Refusal.{Refusal}
use Rattle.deb_control.specs.declared.side.SideFault.{SideFault}
use Rattle.debctl_commands.specs.JobDevices.{ReaderOfJob, WriterOfJob}
use Rattle.debctl_commands.specs.Reporting.{Report, ReportsBy, by_line, by_status}
use Rattle.debctl_commands.specs.SameJob.{side_line}
use Rattle.debctl_commands.specs.VersionJobs.{verdict_status}

-- What a job that writes to a W answers, or why it fails; how each of both is reported; and what an
-- answer says, by the readers and the writer before and after the job.
pub record Promise (W : Type 0) : Type 1 where
  pub Answer : Type 0
  pub Failure : Type 0
  pub report : Answer → Report
  pub fault : Failure → Fault
  pub line : Failure → List ℕ
  pub Says : ReaderOfJob → ReaderOfJob → WriterOfJob W → Result Answer Failure → Type 0

-- ---- forms of promises

-- what the answers of a job say
abbrev pub Saying : Type 0 → Type 0 → Type 0 → Type 1
Saying W T X = ReaderOfJob → ReaderOfJob → WriterOfJob W → Result T X → Type 0

-- a job that reports a fault by its own line, and one that reports it after the side of its file
abbrev pub plain : {W T : Type 0} → (T → Report) → Saying W T Fault → Promise W
plain {W} {T} report says =
    record {
      Answer = T;
      Failure = Fault;
      report = report;
      fault = λ fault. fault;
      line = fault_line;
      Says = says;
    }

abbrev pub sided : {W T : Type 0} → (T → Report) → Saying W T SideFault → Promise W
sided {W} {T} report says =
    record {
      Answer = T;
      Failure = SideFault;
      report = report;
      fault = λ told. told.fault;
      line = side_line;
      Says = says;
    }

-- each answer is success, or an answer is yes or no
abbrev pub done : {T : Type 0} → T → Report
done _ = by_status 0

abbrev pub yes_or_no : Bool → Report
yes_or_no answer = by_status (verdict_status answer)

-- ---- what is said of a run

-- There is an answer, and it is reported.
abbrev pub Ends : {W E : Type 0} → Promise W → ReaderOfJob → ReaderOfJob → WriterOfJob W
    → WriterOfJob E → ℕ → Type 0
Ends promise first second out err status =
    (answer : Result promise.Answer promise.Failure) × promise.Says first second out answer
    × ReportsBy promise.report promise.fault promise.line err.held err.failures err.old err.new
    answer status

-- There is an answer of this kind, if these are the texts of the readers.
pub record Answers {W : Type 0} (promise : Promise W) (left other : Option (List ℕ))
    (out : WriterOfJob W) (Is : Result promise.Answer promise.Failure → Type 0) : Type 0 where
  pub first : ReaderOfJob
  pub first_text : first.text ≡ left
  pub second : ReaderOfJob
  pub second_text : second.text ≡ other
  pub answer : Result promise.Answer promise.Failure
  pub says : promise.Says first second out answer
  pub is : Is answer

-- The answer is reported by that status alone.
abbrev pub HasStatus : {W : Type 0} → (promise : Promise W) → ℕ
    → Result promise.Answer promise.Failure → Type 0
HasStatus promise status (Ok answer) = promise.report answer ≡ by_status status
HasStatus promise status (Err failure) = ⊥

-- The answer has the status 2: a refusal, exactly whose line was written, or an answer that is
-- reported so.
abbrev pub RefusesBy : Report → Option (List ℕ) → Option (List ℕ) → Type 0
RefusesBy (by_status status) err err_after = (status ≡ 2) × (err_after ≡ err)
RefusesBy (by_line line) err err_after = Appends err err_after line

abbrev pub Refuses : {W : Type 0} → (promise : Promise W) → Option (List ℕ) → Option (List ℕ)
    → Result promise.Answer promise.Failure → Type 0
Refuses promise err err_after (Ok answer) = RefusesBy (promise.report answer) err err_after
Refuses promise err err_after (Err failure) =
    (refusal : Refusal) × (promise.fault failure ≡ Refused refusal)
    × Appends err err_after (promise.line failure)
