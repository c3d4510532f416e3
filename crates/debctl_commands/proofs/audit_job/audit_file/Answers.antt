use Rattle.std.proofs.lemmas.Result.{err_from_is_err_and}
use Rattle.debctl_commands.proofs.audit_job.audit_file.Goals as goal

pub returns-in_err-put_audit_record-clause-audits : goal.returns-in_err-put_audit_record-clause-audits
returns-in_err-put_audit_record-clause-audits g c =
    let p = err_from_is_err_and c.from_residual.result c.from_residual.ensures.1 in
    let a = c.check_path-outcome.ensures.answers in
    let written = c.in_err-put_audit_record.ensures in
    rw (p.1, p.2) (record {
      opened = a.0;
      after = a.1;
      outcome = c.check_path-outcome.result;
      opens_once = a.4;
      known = a.2;
      unchanged = c.check_path-outcome.ensures.unchanged;
      counts_unopened = a.5;
      answers = a.3;
      reported = written.written;
      ends = written.fault;
      counted = written.counts_failure;
    })

pub returns-clause-audits : goal.returns-clause-audits
returns-clause-audits g c =
    let a = c.check_path-outcome.ensures.answers in
    let written = c.in_ok-put_audit_record.ensures in
    record {
      opened = a.0;
      after = a.1;
      outcome = c.check_path-outcome.result;
      opens_once = a.4;
      known = a.2;
      unchanged = c.check_path-outcome.ensures.unchanged;
      counts_unopened = a.5;
      answers = a.3;
      reported = written.written;
      ends = c.outcome_status.ensures;
      counted = written.counts_failure;
    }
