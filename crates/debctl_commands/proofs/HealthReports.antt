-- What the answer of `healthy` says of the counts of failed calls.
use Rattle.std.proofs.Common.{◌≡◌, ◌<◌, ℕ, List, Result, Ok, Err, inl, inr, arith, ap}
use Rattle.deb_base.specs.Devices.{read_failures_after, write_failures_after}
use Rattle.deb_base.specs.Lines.{fault_line}
use Rattle.deb_base.specs.declared.fault.Fault.{Fault}
use Rattle.deb_base.specs.declared.fault.Fault.TheVariants.{Refused, Memory, Read, Write}
use Rattle.deb_index.specs.declared.members.Members.{Members}
use Rattle.debctl_args.specs.declared.jobs.Strength.{Strength}
use Rattle.debctl_commands.specs.HealthJob.{health_promise, lines_report}
use Rattle.debctl_commands.specs.JobDevices.{ReaderOfJob, WriterOfJob}
use Rattle.debctl_commands.specs.Promises.{Ends}
use Rattle.debctl_commands.specs.Reporting.{Report, ReportsBy}

-- the answer is reported
abbrev pub Told : {T E : Type 0} → (T → Report) → WriterOfJob E → ℕ → Result T Fault → Type 0
Told report err status answer = ReportsBy report (λ (fault : Fault). fault) fault_line err.held err.failures err.old err.new answer status

module _ {T E : Type 0} (report : T → Report) (err : WriterOfJob E) (status n n_after : ℕ) (rose : n < n_after) where
  -- where the count of failed reads or writes rose, the status is 3
  pub read_is_three : (answer : Result T Fault) → n_after ≡ read_failures_after n answer → Told report err status answer → status ≡ 3
  read_is_three (Err Read) counted (inl whole) = whole.status
  read_is_three (Err Read) counted (inr front) = front.status
  read_is_three (Ok found) counted told = absurd (omega (arith, counted, rose))
  read_is_three (Err (Refused refusal)) counted told = absurd (omega (arith, counted, rose))
  read_is_three (Err Memory) counted told = absurd (omega (arith, counted, rose))
  read_is_three (Err Write) counted told = absurd (omega (arith, counted, rose))

  pub write_is_three : (answer : Result T Fault) → n_after ≡ write_failures_after n answer → Told report err status answer → status ≡ 3
  write_is_three (Err Write) counted (inl whole) = whole.status
  write_is_three (Err Write) counted (inr front) = front.status
  write_is_three (Ok found) counted told = absurd (omega (arith, counted, rose))
  write_is_three (Err (Refused refusal)) counted told = absurd (omega (arith, counted, rose))
  write_is_three (Err Memory) counted told = absurd (omega (arith, counted, rose))
  write_is_three (Err Read) counted told = absurd (omega (arith, counted, rose))

module _ {W E : Type 0} (target : List ℕ) (members : Members) (strength : Strength) (first : ReaderOfJob) (out : WriterOfJob W) (err : WriterOfJob E) (status : ℕ) where
  -- whatever the second reader is, which isn't used
  pub three_if_first : ((second : ReaderOfJob) → Ends (health_promise target members strength) first second out err status) → first.failures < first.failures_after → status ≡ 3
  three_if_first ends rose = go (ends first)
    where
      go : Ends (health_promise target members strength) first first out err status → status ≡ 3
      go (answer, inl e, told) = let same = e.untouched in absurd (omega (arith, same, rose))
      go (answer, inr (good, own), told) = read_is_three lines_report err status first.failures first.failures_after rose answer own.reads told

  pub three_if_out : ((second : ReaderOfJob) → Ends (health_promise target members strength) first second out err status) → out.failures out.old < out.failures out.new → status ≡ 3
  three_if_out ends rose = go (ends first)
    where
      go : Ends (health_promise target members strength) first first out err status → status ≡ 3
      go (answer, inl e, told) = let same = ap out.failures e.unwritten in absurd (omega (arith, same, rose))
      go (answer, inr (good, own), told) = write_is_three lines_report err status (out.failures out.old) (out.failures out.new) rose answer own.writes told
