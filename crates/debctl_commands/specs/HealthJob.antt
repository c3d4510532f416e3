-- What the job of `healthy` answers and reports. Its lines are those of `deb_health`; the order of
-- refusals is this project's own.
use Rattle.std.specs.Prelude.{◌≡◌, ◌⊎◌, ℕ, Bool, true, false, List, [], ◌∷◌, map, Result, Err, IsFalse, IsTrue, codes, refl}
use Rattle.deb_base.specs.Faults.{RefusedOrMemory}
use Rattle.deb_base.specs.declared.fault.Fault.{Fault}
use Rattle.deb_relation.specs.Environments.{environment_with}
use Rattle.deb_relation.specs.Targets.{is_environment}
use Rattle.deb_index.specs.Questions.{bad_environment}
use Rattle.deb_index.specs.declared.members.Members.{Members}
use Rattle.deb_unmet.specs.declared.asking.Summary.{Summary}
use Rattle.deb_health.specs.Health.{asks_healthy}
use Rattle.debctl_args.specs.declared.jobs.Strength.{Strength}
use Rattle.debctl_commands.specs.JobDevices.{ReaderOfJob, WriterOfJob}
use Rattle.debctl_commands.specs.Promises.{Promise, plain, yes_or_no}
use Rattle.debctl_commands.specs.Reporting.{Report, by_status}
use Rattle.debctl_commands.specs.UnmetJob.{AsksOwn, fields_tried}

-- the architecture can be that of a set
abbrev pub is_architecture : List ℕ → Bool
is_architecture target = is_environment target []

-- The architecture is refused, or out of memory: the file wasn't read, and nothing was written to
-- `out`.
pub record FailsAtTarget {W T : Type 0} (target : List ℕ) (first : ReaderOfJob)
    (out : WriterOfJob W) (answer : Result T Fault) : Type 0 where
  pub fault : Fault
  pub is : answer ≡ Err fault
  pub fault_is : RefusedOrMemory fault
      (λ refusal. IsFalse (is_architecture target) × (refusal ≡ bad_environment))
  pub untouched : first.failures_after ≡ first.failures
  pub unwritten : out.new ≡ out.old

-- What the job answers about the set of a file.
abbrev pub AsksSet : {W : Type 0} → List ℕ → Members → Strength → ReaderOfJob → WriterOfJob W
    → Result Summary Fault → Type 0
AsksSet target members strength first out answer =
    FailsAtTarget target first out answer
    ⊎ (IsTrue (is_architecture target)
    × AsksOwn (asks_healthy members (fields_tried strength) (environment_with target []))
    first.text first.failures first.failures_after out.held out.failures out.old out.new answer)

-- lines that were written, or none, are the answer
abbrev pub lines_report : Summary → Report
lines_report summary = yes_or_no summary.is_empty

-- What the job promises of these words.
abbrev pub health_promise : {W : Type 0} → List ℕ → Members → Strength → Promise W
health_promise target members strength =
    plain lines_report
    (λ first second out answer. AsksSet target members strength first out answer)

-- no line is status 0, and a line is 1
reports_of_sets : (lines_report (record { paragraphs = 2; is_empty = true }) ≡ by_status 0)
    × (lines_report (record { paragraphs = 0; is_empty = false }) ≡ by_status 1)
reports_of_sets = (refl, refl)

-- a wildcard isn't the architecture of a set
architectures : map is_architecture (codes "amd64" ∷ codes "all" ∷ codes "any" ∷ [] ∷ [])
    ≡ true ∷ false ∷ false ∷ false ∷ []
architectures = refl
