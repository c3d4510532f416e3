use Rattle.std.proofs.Common.{refl}
use Rattle.debctl_commands.proofs.JobReports.{reported_as}
use Rattle.debctl_commands.proofs.command.run_job.Goals as goal

pub returns-in-Check-clause-reports_answer : goal.returns-in-Check-clause-reports_answer
returns-in-Check-clause-reports_answer g c = reported_as c.args.job.now _ c.in-Check.is _ _ _ _ c.run_check.result c.run_check.ensures.reports_answer

pub returns-in-CheckAll-clause-reports_answer : goal.returns-in-CheckAll-clause-reports_answer
returns-in-CheckAll-clause-reports_answer g c = reported_as c.args.job.now _ c.in-CheckAll.is _ _ _ _ c.run_check_all.result c.run_check_all.ensures.reports_answer

pub returns-in-CheckWhole-clause-reports_answer : goal.returns-in-CheckWhole-clause-reports_answer
returns-in-CheckWhole-clause-reports_answer g c = reported_as c.args.job.now _ c.in-CheckWhole.is _ _ _ _ c.run_check_whole.result c.run_check_whole.ensures.reports_answer

pub returns-in-Normalise-clause-reports_answer : goal.returns-in-Normalise-clause-reports_answer
returns-in-Normalise-clause-reports_answer g c = reported_as c.args.job.now _ c.in-Normalise.is _ _ _ _ c.run_normalise.result c.run_normalise.ensures.reports_answer

pub returns-in-Same-clause-reports_answer : goal.returns-in-Same-clause-reports_answer
returns-in-Same-clause-reports_answer g c = reported_as c.args.job.now _ c.in-Same.is _ _ _ _ c.run_same.result c.run_same.ensures.reports_answer

pub returns-in-Sort-clause-reports_answer : goal.returns-in-Sort-clause-reports_answer
returns-in-Sort-clause-reports_answer g c = reported_as c.args.job.now _ c.in-Sort.is _ _ _ _ c.run_sort.result c.run_sort.ensures.reports_answer

pub returns-in-Compare-clause-reports_answer : goal.returns-in-Compare-clause-reports_answer
returns-in-Compare-clause-reports_answer g c =
    let e = rw (c.as_str.ensures.value, c.as_str-in-Compare.ensures.value) at c.run_compare.ensures.reports_answer in
    reported_as c.args.job.now _ c.in-Compare.is _ _ _ _ c.run_compare.result (e.0, (e.1, refl), e.2)

pub returns-in-CanonVersion-clause-reports_answer : goal.returns-in-CanonVersion-clause-reports_answer
returns-in-CanonVersion-clause-reports_answer g c =
    reported_as c.args.job.now _ c.in-CanonVersion.is _ _ _ _ c.run_canon_version.result (rw c.as_str-in-CanonVersion.ensures.value at c.run_canon_version.ensures.reports_answer)

pub returns-in-VersionKey-clause-reports_answer : goal.returns-in-VersionKey-clause-reports_answer
returns-in-VersionKey-clause-reports_answer g c =
    reported_as c.args.job.now _ c.in-VersionKey.is _ _ _ _ c.run_version_key.result (rw c.deref.ensures.value at c.run_version_key.ensures.reports_answer)

pub returns-in-Healthy-clause-reports_answer : goal.returns-in-Healthy-clause-reports_answer
returns-in-Healthy-clause-reports_answer g c = c.run_on_packages.ensures.reports_answer _
