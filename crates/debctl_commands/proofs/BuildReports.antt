-- What the answer of `installable` on source packages says of the counts of failed calls.
use Rattle.std.proofs.Common.{◌≡◌, ◌<◌, ℕ, inl, inr, arith, ap, subst}
use Rattle.deb_control.specs.declared.side.Side.TheVariants.{First, Second}
use Rattle.debctl_commands.specs.BuildJob.{SourceWords, build_promise}
use Rattle.debctl_commands.specs.JobDevices.{ReaderOfJob, WriterOfJob}
use Rattle.debctl_commands.specs.Promises.{Ends}
use Rattle.debctl_commands.specs.SideAnswers.{ReportsTried}
use Rattle.debctl_commands.proofs.SideReports.{index_is_three, read_is_three, write_is_three}

module _ {W E : Type 0} (w : SourceWords) (first second : ReaderOfJob) (out : WriterOfJob W) (err : WriterOfJob E) (status : ℕ) where
  pub three_if_first : Ends (build_promise w) first second out err status → first.failures < first.failures_after → status ≡ 3
  three_if_first (answer, inl e, reported) rose = let same = e.first_untouched in absurd (omega (arith, same, rose))
  three_if_first (answer, inr (environment, inl e), reported) rose =
      index_is_three err First status first.failures first.failures_after rose e.fault e.counted (subst (λ a. ReportsTried err a status) e.is reported)
  three_if_first (answer, inr (environment, inr e), reported) rose = let same = e.unfailed in absurd (omega (arith, same, rose))

  pub three_if_second : Ends (build_promise w) first second out err status → second.failures < second.failures_after → status ≡ 3
  three_if_second (answer, inl e, reported) rose = let same = e.second_untouched in absurd (omega (arith, same, rose))
  three_if_second (answer, inr (environment, inl e), reported) rose = let same = e.second_untouched in absurd (omega (arith, same, rose))
  three_if_second (answer, inr (environment, inr e), reported) rose =
      read_is_three err Second status second.failures second.failures_after rose e.tried e.answers.reads (subst (λ a. ReportsTried err a status) e.is reported)

  pub three_if_out : Ends (build_promise w) first second out err status → out.failures out.old < out.failures out.new → status ≡ 3
  three_if_out (answer, inl e, reported) rose = let same = ap out.failures e.unwritten in absurd (omega (arith, same, rose))
  three_if_out (answer, inr (environment, inl e), reported) rose = let same = ap out.failures e.unwritten in absurd (omega (arith, same, rose))
  three_if_out (answer, inr (environment, inr e), reported) rose =
      write_is_three err Second status (out.failures out.old) (out.failures out.new) rose e.tried e.answers.writes (subst (λ a. ReportsTried err a status) e.is reported)
