use Rattle.std.proofs.lemmas.Result.{err_from_is_err_and}
use Rattle.debctl_commands.proofs.Lacks.{checked, not_checked, unwritten}
use Rattle.debctl_commands.proofs.whole_job.write_whole.Goals as goal

pub returns-in_err-verdict-clause-checks : goal.returns-in_err-verdict-clause-checks
returns-in_err-verdict-clause-checks g c =
    let p = err_from_is_err_and c.from_residual.result c.from_residual.ensures.1 in
    rw (p.1, p.2)
    (not_checked c.args.doc c.args.demands (g.R.Source.left c.args.first.now) (g.R.Source.left c.check_whole.new.reader) (g.R.Source.failures c.args.first.now) (g.R.Source.failures c.check_whole.new.reader) g.W.Sink.held g.W.Sink.failures c.args.out.now
    _ c.in_err-verdict.ensures)

pub returns-in_err-put_whole-clause-checks : goal.returns-in_err-put_whole-clause-checks
returns-in_err-put_whole-clause-checks g c =
    let p = err_from_is_err_and c.from_residual-in_err-put_whole.result c.from_residual-in_err-put_whole.ensures.1 in
    rw (p.1, p.2)
    (unwritten c.args.doc c.args.demands (g.R.Source.left c.args.first.now) (g.R.Source.left c.check_whole.new.reader) (g.R.Source.failures c.args.first.now) (g.R.Source.failures c.check_whole.new.reader) g.W.Sink.held g.W.Sink.failures c.args.out.now
    c.put_whole.new.out c.in_ok-verdict.verdict _ c.in_ok-verdict.ensures c.in_err-put_whole.ensures)

pub returns-clause-checks : goal.returns-clause-checks
returns-clause-checks g c =
    checked c.args.doc c.args.demands (g.R.Source.left c.args.first.now) (g.R.Source.left c.check_whole.new.reader) (g.R.Source.failures c.args.first.now) (g.R.Source.failures c.check_whole.new.reader) g.W.Sink.held g.W.Sink.failures c.args.out.now
    c.put_whole.new.out c.in_ok-verdict.verdict _ c.in_ok-verdict.ensures c.in_ok-put_whole.ensures
