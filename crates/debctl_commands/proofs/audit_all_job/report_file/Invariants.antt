use Rattle.std.proofs.Common.{◌≡◌, None}
use Rattle.deb_control.specs.GivenRefusals.{failure_of}
use Rattle.debctl_commands.proofs.AuditAllReports.{SoFar}
use Rattle.debctl_commands.proofs.audit_all_job.report_file.Given as goal

abbrev pub invariant-loop : goal.invariant-loop
invariant-loop g l = record {
  sound : failure_of l.refusals ≡ None;
  reads : g.R.Source.failures l.reader ≡ g.R.Source.failures l.initial.reader;
  writes : g.W.Sink.failures l.out ≡ g.W.Sink.failures l.initial.out;
  so_far : SoFar l.options.doc l.options.end l.path (g.R.Source.left l.initial.reader) (g.W.Sink.held l.initial.out) l.refusals (g.R.Source.left l.reader) (g.W.Sink.held l.out) l.status;
}
