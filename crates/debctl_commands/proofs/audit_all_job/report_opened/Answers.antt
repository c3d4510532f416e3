use Rattle.std.proofs.Common.{Err, refl, sym, subst}
use Rattle.std.proofs.lemmas.Result.{err_from_is_err_and}
use Rattle.debctl_commands.specs.AuditAllJob.{FindsOpened, unopened}
use Rattle.debctl_commands.proofs.audit_all_job.report_opened.Goals as goal

pub returns-in_err-put_audit_record-in-Err-clause-reports : goal.returns-in_err-put_audit_record-in-Err-clause-reports
returns-in_err-put_audit_record-in-Err-clause-reports g c =
    let p = err_from_is_err_and c.from_residual.result c.from_residual.ensures.1 in
    let written = c.in_err-put_audit_record-in-Err.ensures in
    rw (p.1, p.2) (
      unopened c.in-Err.why,
      subst (λ o. FindsOpened g.R.Source.left g.R.Source.failures c.args.options.doc o (Err c.in-Err.why) (unopened c.in-Err.why)) (sym c.in-Err.is) (refl, refl),
      record { written = written.written; ends = written.fault; counted = written.counts_failure },
    )

pub returns-in_ok-put_audit_record-in-Err-clause-reports : goal.returns-in_ok-put_audit_record-in-Err-clause-reports
returns-in_ok-put_audit_record-in-Err-clause-reports g c =
    let written = c.in_ok-put_audit_record-in-Err.ensures in (
      unopened c.in-Err.why,
      subst (λ o. FindsOpened g.R.Source.left g.R.Source.failures c.args.options.doc o (Err c.in-Err.why) (unopened c.in-Err.why)) (sym c.in-Err.is) (refl, refl),
      record { written = written.written; ends = refl; counted = written.counts_failure },
    )
