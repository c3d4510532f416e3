use Rattle.std.proofs.Common.{arith}
use Rattle.debctl_commands.proofs.FaultReports.{write_is_three}
use Rattle.debctl_commands.proofs.audit_job.run_audit.Goals as goal

pub returns-in-Err-clause-reports_each_file : goal.returns-in-Err-clause-reports_each_file
returns-in-Err-clause-reports_each_file g c = λ below.
    let three = write_is_three g.E.Sink.held g.E.Sink.failures c.args.err.now c.report_fault.new.err c.report_fault.result c.in-Err.fault c.in-Err.ensures.fault c.report_fault.ensures in
    absurd (omega (arith, below, three))
