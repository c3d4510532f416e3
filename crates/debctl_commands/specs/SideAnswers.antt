-- The answer of a job on an index and then another file, and how it is reported. The order of
-- refusals is this project's own.
use Rattle.std.specs.Prelude.{◌≡◌, ℕ, ⊤, Bool, true, false, List, [], ◌∷◌, map, Option, Some, Result, Ok, Err, IsFalse}
use Rattle.std.specs.Prelude.{codes, refl}
use Rattle.std.specs.Fmt.{digits}
use Rattle.deb_base.specs.Devices.{read_failures_after}
use Rattle.deb_base.specs.Faults.{IsReadersFault, RefusedOrMemory}
use Rattle.deb_base.specs.Lines.{fault_line}
use Rattle.deb_base.specs.declared.fault.Fault.{Fault}
use Rattle.deb_base.specs.declared.fault.Fault.TheVariants.{Refused, Read, Write}
use Rattle.deb_base.specs.declared.refusal.Refusal.{Refusal}
use Rattle.deb_control.specs.Calls.{IfRefused}
use Rattle.deb_control.specs.Checking.{IsRefusalOfDocument}
use Rattle.deb_control.specs.Documents.{refusal_of}
use Rattle.deb_control.specs.declared.side.Side.{Side}
use Rattle.deb_control.specs.declared.side.Side.TheVariants.{First, Second}
use Rattle.deb_control.specs.declared.side.SideFault.{SideFault}
use Rattle.deb_index.specs.Members.{doc_of}
use Rattle.deb_index.specs.Questions.{bad_environment}
use Rattle.deb_index.specs.declared.members.Members.{Members}
use Rattle.deb_unmet.specs.declared.asking.Summary.{Summary}
use Rattle.debctl_commands.specs.JobDevices.{ReaderOfJob, WriterOfJob}
use Rattle.debctl_commands.specs.Promises.{yes_or_no}
use Rattle.debctl_commands.specs.Reporting.{Report, ReportsBy, by_status}
use Rattle.debctl_commands.specs.SameJob.{side_line}

-- The index is refused.
abbrev pub IsRefusedIndex : Members → Option (List ℕ) → Type 0
IsRefusedIndex members left =
    (index : List ℕ) × (refusal : Refusal) × (left ≡ Some index)
    × (refusal_of (doc_of members) index ≡ Some refusal)

-- ---- reporting

-- why the job fails: by its words, or by a file, whose side is named
pub data Failure : Type 0 where
  of_words : Fault → Failure
  of_file : SideFault → Failure

abbrev pub fault_of : Failure → Fault
fault_of (of_words fault) = fault
fault_of (of_file told) = told.fault

abbrev pub line_of : Failure → List ℕ
line_of (of_words fault) = fault_line fault
line_of (of_file told) = side_line told

abbrev pub unmet_report : Summary → Report
unmet_report summary = yes_or_no summary.is_empty

-- the answer of the file of a side
abbrev pub at_side : Side → Result Summary Fault → Result Summary Failure
at_side side (Ok summary) = Ok summary
at_side side (Err fault) = Err (of_file (record { side = side; fault = fault }))

abbrev pub ReportsTried : {E : Type 0} → WriterOfJob E → Result Summary Failure → ℕ → Type 0
ReportsTried err answer status =
    ReportsBy unmet_report fault_of line_of err.held err.failures err.old err.new answer status

-- ---- what failed

-- The environment isn't good and is refused, or out of memory: no file was read, and nothing was
-- written to `out`.
pub record FailsAtWords {W : Type 0} (good : Bool) (first second : ReaderOfJob)
    (out : WriterOfJob W) (answer : Result Summary Failure) : Type 0 where
  pub fault : Fault
  pub is : answer ≡ Err (of_words fault)
  pub fault_is : RefusedOrMemory fault
      (λ refusal. IsFalse good × (refusal ≡ bad_environment))
  pub first_untouched : first.failures_after ≡ first.failures
  pub second_untouched : second.failures_after ≡ second.failures
  pub unwritten : out.new ≡ out.old

-- The index is refused, can't be read or takes too much memory: the second file wasn't read, and
-- nothing was written to `out`.
pub record FailsAtIndex {W : Type 0} (members : Members) (first second : ReaderOfJob)
    (out : WriterOfJob W) (answer : Result Summary Failure) : Type 0 where
  pub fault : Fault
  pub is : answer ≡ at_side First (Err fault)
  pub fault_is : IsReadersFault fault IsRefusalOfDocument
  pub refused : (text : List ℕ) → first.text ≡ Some text →
      IfRefused {T = ⊤} (Err fault) (λ refusal. refusal_of (doc_of members) text ≡ Some refusal)
  pub counted : first.failures_after ≡ read_failures_after {T = ⊤} first.failures (Err fault)
  pub second_untouched : second.failures_after ≡ second.failures
  pub unwritten : out.new ≡ out.old

-- ---- worked cases

-- a fault of the words, or of a file
faults_of_failures :
    (map fault_of (of_words Read ∷ of_file (record { side = Second; fault = Write }) ∷ [])
    ≡ Read ∷ Write ∷ [])
    × (map line_of (of_words (Refused bad_environment)
    ∷ of_file (record { side = First; fault = Refused bad_environment }) ∷ [])
    ≡ codes "line 0: 23 BadEnvironment\n" ∷ codes "first: line 0: 23 BadEnvironment\n" ∷ [])
    × (at_side First (Err Read) ≡ Err (of_file (record { side = First; fault = Read })))
unfolding digits
faults_of_failures = (refl, refl, refl)

-- no line is status 0, and a line is 1, whatever was counted
reports_of_summaries : (at_side Second (Ok (record { paragraphs = 2; is_empty = true }))
    ≡ Ok (record { paragraphs = 2; is_empty = true }))
    × (unmet_report (record { paragraphs = 2; is_empty = true }) ≡ by_status 0)
    × (unmet_report (record { paragraphs = 0; is_empty = false }) ≡ by_status 1)
reports_of_summaries = (refl, refl, refl)
