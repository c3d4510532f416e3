use Rattle.std.proofs.Common.{take, drop, ◌+◌, refl, ◌∙◌}
use Rattle.std.proofs.lemmas.Result.{err_from_is_err_and}
use Rattle.debctl_commands.specs.AuditAllJob.{ReportsPath}
use Rattle.debctl_commands.proofs.Turning.{turn_more, turn_stopped}
use Rattle.debctl_commands.proofs.PathLists.{texts, texts_more, texts_split}
use Rattle.debctl_commands.proofs.audit_all_job.audit_all.Goals as goal

pub loop-path-init : goal.loop-path-init
loop-path-init g c = record { reported = (refl, refl, refl); writes = refl }

pub loop-path-preserved : goal.loop-path-preserved
loop-path-preserved g c =
    let i = c.loop-path.path-index in
    record {
      reported = rw (texts_more c.args.paths.now i c.loop-path-test.true, c.max-status.ensures)
          (turn_more (ReportsPath g.F.Reader.Source.left g.F.Reader.Source.failures g.F.Opens.opens g.F.Opens.text g.F.Opens.failures g.W.Sink.held g.W.Sink.failures c.args.options.doc c.args.options.end) (texts (take i c.args.paths.now)) _
          c.args.files.now c.loop-path.files c.report_path.new.files c.args.out.now c.loop-path.out c.report_path.new.out c.loop-path.status _ c.loop-path.invariant.reported c.in_ok-report_path.ensures.reports);
      writes = c.in_ok-report_path.ensures.counts_failure ∙ c.loop-path.invariant.writes;
    }

pub returns-in_err-report_path-clause-in_turn : goal.returns-in_err-report_path-clause-in_turn
returns-in_err-report_path-clause-in_turn g c =
    let p = err_from_is_err_and c.from_residual.result c.from_residual.ensures.1 in
    let i = c.loop-path.path-index in
    rw (p.1, p.2, texts_split c.args.paths.now i c.loop-path-test.true)
    (turn_stopped (ReportsPath g.F.Reader.Source.left g.F.Reader.Source.failures g.F.Opens.opens g.F.Opens.text g.F.Opens.failures g.W.Sink.held g.W.Sink.failures c.args.options.doc c.args.options.end) (texts (take i c.args.paths.now)) (texts (drop (i + 1) c.args.paths.now)) _
    c.args.files.now c.loop-path.files c.report_path.new.files c.args.out.now c.loop-path.out c.report_path.new.out c.loop-path.status _ c.loop-path.invariant.reported c.in_err-report_path.ensures.reports)
