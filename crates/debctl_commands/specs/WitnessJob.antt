-- What the job of `installable --witness` answers and reports. Its lines are those of
-- `deb_install`; the order of refusals is this project's own.
use Rattle.std.specs.Prelude.{◌≡◌, ◌⊎◌, ℕ, true, false, List, Some, Result, IfErr, IfOk, IsTrue, refl}
use Rattle.deb_base.specs.Devices.{read_failures_after, write_failures_after}
use Rattle.deb_base.specs.declared.fault.Fault.{Fault}
use Rattle.deb_control.specs.Calls.{IfRefused}
use Rattle.deb_control.specs.Checking.{IsRefusalOfDocument}
use Rattle.deb_control.specs.Documents.{refusal_of}
use Rattle.deb_index.specs.Members.{doc_of}
use Rattle.deb_install.specs.Installing.{AsksInstallable}
use Rattle.deb_install.specs.Witnesses.{StopsWitness, WritesWitness}
use Rattle.deb_install.specs.declared.witnesses.Sought.{Sought}
use Rattle.debctl_commands.specs.HealthJob.{FailsAtTarget, is_architecture}
use Rattle.debctl_commands.specs.InstallJob.{PackageWords, asks_of}
use Rattle.debctl_commands.specs.JobDevices.{ReaderOfJob, WriterOfJob}
use Rattle.debctl_commands.specs.Promises.{Promise, plain, yes_or_no}
use Rattle.debctl_commands.specs.Reporting.{Report, by_status}

-- The answer about a set of packages of the file, and what was written, whatever the budget of the
-- search.
pub record FindsSet {W : Type 0} (asks : AsksInstallable) (first : ReaderOfJob)
    (out : WriterOfJob W) (answer : Result Sought Fault) : Type 0 where
  pub ok : (text : List ℕ) → first.text ≡ Some text → IfOk answer
      (λ sought. WritesWitness asks text sought (out.held out.old) (out.held out.new))
  pub refused : (text : List ℕ) → first.text ≡ Some text →
      IfRefused answer (λ refusal. refusal_of (doc_of asks.members) text ≡ Some refusal)
  pub stopped : (text : List ℕ) → first.text ≡ Some text → IfErr answer
      (λ fault. StopsWitness fault asks text (out.held out.old) (out.held out.new))
  pub unwritten : IfRefused answer (λ _. out.new ≡ out.old)
  pub refusal : IfRefused answer IsRefusalOfDocument
  pub reads : first.failures_after ≡ read_failures_after first.failures answer
  pub writes : out.failures out.new ≡ write_failures_after (out.failures out.old) answer

-- a set that was found, or none, is the answer
abbrev pub sought_report : Sought → Report
sought_report sought = yes_or_no sought.is_found

-- What the job promises of these words.
abbrev pub witness_promise : {W : Type 0} → PackageWords → Promise W
witness_promise w =
    plain sought_report
    (λ first second out answer. FailsAtTarget w.target first out answer
    ⊎ (IsTrue (is_architecture w.target) × FindsSet (asks_of w) first out answer))

-- a set is status 0, and none is 1
reports_of_searches : (sought_report (record { paragraphs = 2; is_found = true }) ≡ by_status 0)
    × (sought_report (record { paragraphs = 2; is_found = false }) ≡ by_status 1)
reports_of_searches = (refl, refl)
