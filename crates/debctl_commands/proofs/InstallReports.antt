-- What the answer of `installable` says of the counts of failed calls.
use Rattle.std.proofs.Common.{◌≡◌, ◌<◌, ℕ, inl, inr, arith, ap}
use Rattle.debctl_commands.specs.HealthJob.{lines_report}
use Rattle.debctl_commands.specs.InstallJob.{PackageWords, install_promise}
use Rattle.debctl_commands.specs.JobDevices.{ReaderOfJob, WriterOfJob}
use Rattle.debctl_commands.specs.Promises.{Ends}
use Rattle.debctl_commands.proofs.HealthReports.{read_is_three, write_is_three}

module _ {W E : Type 0} (w : PackageWords) (first : ReaderOfJob) (out : WriterOfJob W) (err : WriterOfJob E) (status : ℕ) where
  -- whatever the second reader is, which isn't used
  pub three_if_first : ((second : ReaderOfJob) → Ends (install_promise w) first second out err status) → first.failures < first.failures_after → status ≡ 3
  three_if_first ends rose = go (ends first)
    where
      go : Ends (install_promise w) first first out err status → status ≡ 3
      go (answer, inl e, told) = let same = e.untouched in absurd (omega (arith, same, rose))
      go (answer, inr (good, asks), told) = read_is_three lines_report err status first.failures first.failures_after rose answer asks.reads told

  pub three_if_out : ((second : ReaderOfJob) → Ends (install_promise w) first second out err status) → out.failures out.old < out.failures out.new → status ≡ 3
  three_if_out ends rose = go (ends first)
    where
      go : Ends (install_promise w) first first out err status → status ≡ 3
      go (answer, inl e, told) = let same = ap out.failures e.unwritten in absurd (omega (arith, same, rose))
      go (answer, inr (good, asks), told) = write_is_three lines_report err status (out.failures out.old) (out.failures out.new) rose answer asks.writes told
