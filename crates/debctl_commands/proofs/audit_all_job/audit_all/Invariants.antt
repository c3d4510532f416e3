use Rattle.std.proofs.Common.{◌≡◌, map, take, Ok}
use Rattle.debctl_commands.specs.AuditAllJob.{ReportsPath}
use Rattle.debctl_commands.specs.Turns.{InTurn}
use Rattle.debctl_commands.proofs.audit_all_job.audit_all.Given as goal

abbrev pub invariant-loop-path : goal.invariant-loop-path
invariant-loop-path g l = record {
  reported : InTurn (ReportsPath g.F.Reader.Source.left g.F.Reader.Source.failures g.F.Opens.opens g.F.Opens.text g.F.Opens.failures g.W.Sink.held g.W.Sink.failures l.options.doc l.options.end)
      (map (λ path. path.now) (take l.path-index l.paths)) l.initial.files l.initial.out (Ok l.status) l.files l.out;
  writes : g.W.Sink.failures l.out ≡ g.W.Sink.failures l.initial.out;
}
