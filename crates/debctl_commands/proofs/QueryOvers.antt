-- What the answer of `query` over several indexes says of failed openings and writes.
use Rattle.std.proofs.Common.{◌≡◌, ◌⊎◌, ◌<◌, ℕ, Bool, List, Result, Ok, Err, inl, inr, arith, refl, ap, ◌∙◌, subst, sym}
use Rattle.deb_base.specs.Devices.{write_failures_after}
use Rattle.deb_base.specs.declared.fault.Fault.{Fault}
use Rattle.deb_base.specs.declared.fault.Fault.TheVariants.{Refused, Memory, Read, Write}
use Rattle.deb_index.specs.Questions.{Question}
use Rattle.deb_index.specs.declared.members.Members.{Members}
use Rattle.debctl_args.specs.declared.jobs.QueryOver.{QueryOver}
use Rattle.debctl_args.specs.declared.jobs.RelationArgument.{RelationArgument}
use Rattle.debctl_args.specs.declared.jobs.RelationArgument.TheVariants.{From, Text}
use Rattle.debctl_commands.specs.FileFaults.{at_role, fault_at}
use Rattle.debctl_commands.specs.JobDevices.{WriterOfJob}
use Rattle.debctl_commands.specs.OpenedFiles.{Opener}
use Rattle.debctl_commands.specs.QueryOver.{QueriesIndexes, QueriesOver, QueriesSource}
use Rattle.debctl_commands.specs.Reporting.{status_of}
use Rattle.debctl_commands.specs.declared.file_fault.FileFault.{FileFault}
use Rattle.debctl_commands.specs.declared.file_fault.Role.{Role}
use Rattle.debctl_commands.specs.declared.query_job.QueryOptions.{QueryOptions}
use Rattle.debctl_commands.proofs.Endings.{HasStatusThree}
use Rattle.debctl_commands.proofs.InOrderSteps.{err_read, ok_unread, opened_or_read}
use Rattle.debctl_commands.proofs.IndexesRead.{failed_or_opened, read_or_opened}

-- an answer with a failed read, or with a failed write, has the status 3
pub three_of_fault : {T : Type 0} (role : Role) (fault : Fault) (answer : Result T FileFault) → answer ≡ Err (fault_at role fault) → status_of fault ≡ 3 → HasStatusThree answer
three_of_fault role fault answer is three = subst HasStatusThree (sym is) three

pub three_of_write : {T : Type 0} (role : Role) (n m : ℕ) (tried : Result T Fault) (answer : Result T FileFault) → answer ≡ at_role role tried → m ≡ write_failures_after n tried → n < m → HasStatusThree answer
three_of_write role n m (Err Write) answer is counted rose = subst HasStatusThree (sym is) refl
three_of_write role n m (Ok value) answer is counted rose = absurd (omega (arith, counted, rose))
three_of_write role n m (Err (Refused refusal)) answer is counted rose = absurd (omega (arith, counted, rose))
three_of_write role n m (Err Memory) answer is counted rose = absurd (omega (arith, counted, rose))
three_of_write role n m (Err Read) answer is counted rose = absurd (omega (arith, counted, rose))

module _ {F R W : Type 0} (by : Opener F R) (given : QueryOver) (files_after : F) (out : WriterOfJob W) where
  indexes_opened : (members : Members) (options : QueryOptions) (q : Question) (paths : List (List ℕ)) (files : F) (answer : Result Bool FileFault) → QueriesIndexes by members options q paths files files_after out answer → (by.unopened files_after ≡ by.unopened files) ⊎ HasStatusThree answer
  indexes_opened members options q paths files answer (inl words) = inl (ap by.unopened words.unopened)
  indexes_opened members options q paths files answer (inr (good, inl failed)) = elim (failed_or_opened members by paths files files_after failed.told failed.fails.in_order) [
    | inl same ↦ inl same
    | inr bad ↦ inr (three_of_fault _ failed.told.fault answer failed.is (ap status_of bad))
  ]
  indexes_opened members options q paths files answer (inr (good, inr reports)) = inl (read_or_opened members by paths files files_after reports.index reports.read.in_order)

  source_opened : (source : RelationArgument) (files : F) (answer : Result Bool FileFault) → QueriesSource by given source files files_after out answer → (by.unopened files_after ≡ by.unopened files) ⊎ HasStatusThree answer
  source_opened (Text relation) files answer says = indexes_opened _ _ _ _ files answer says
  source_opened (From path) files answer (inl failed) = elim (opened_or_read by _ files files_after (Err failed.fault) failed.reads) [
    | inl same ↦ inl same
    | inr bad ↦ inr (three_of_fault _ failed.fault answer failed.is (ap status_of (err_read failed.fault (Err failed.fault) refl bad)))
  ]
  source_opened (From path) files answer (inr read) = elim (opened_or_read by _ files read.between (Ok read.relation) read.reads) [
    | inl same ↦ elim (indexes_opened _ _ _ _ read.between answer read.queries) [
      | inl more ↦ inl (more ∙ same)
      | inr bad ↦ inr bad
    ]
    | inr bad ↦ absurd (ok_unread read.relation (Ok read.relation) refl bad)
  ]

  -- where an opening failed, the answer has the status 3
  pub query_opened : (files : F) → by.unopened files < by.unopened files_after → (answer : Result Bool FileFault) → QueriesOver by given files files_after out answer → HasStatusThree answer
  query_opened files rose answer says = elim (source_opened given.relation files answer says) [
    | inl same ↦ absurd (omega (arith, same, rose))
    | inr three ↦ three
  ]

  indexes_written : (members : Members) (options : QueryOptions) (q : Question) (paths : List (List ℕ)) (files : F) → out.failures out.old < out.failures out.new → (answer : Result Bool FileFault) → QueriesIndexes by members options q paths files files_after out answer → HasStatusThree answer
  indexes_written members options q paths files rose answer (inl words) = let same = ap out.failures words.unwritten in absurd (omega (arith, same, rose))
  indexes_written members options q paths files rose answer (inr (good, inl failed)) = let same = ap out.failures failed.unwritten in absurd (omega (arith, same, rose))
  indexes_written members options q paths files rose answer (inr (good, inr reports)) = three_of_write _ _ _ reports.reported answer reports.is reports.reports.writes rose

  source_written : (source : RelationArgument) (files : F) → out.failures out.old < out.failures out.new → (answer : Result Bool FileFault) → QueriesSource by given source files files_after out answer → HasStatusThree answer
  source_written (Text relation) files rose answer says = indexes_written _ _ _ _ files rose answer says
  source_written (From path) files rose answer (inl failed) = let same = ap out.failures failed.unwritten in absurd (omega (arith, same, rose))
  source_written (From path) files rose answer (inr read) = indexes_written _ _ _ _ read.between rose answer read.queries

  -- and where a write failed
  pub query_written : (files : F) → out.failures out.old < out.failures out.new → (answer : Result Bool FileFault) → QueriesOver by given files files_after out answer → HasStatusThree answer
  query_written files rose answer says = source_written given.relation files rose answer says
