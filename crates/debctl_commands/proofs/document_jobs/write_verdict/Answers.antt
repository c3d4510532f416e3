use Rattle.std.proofs.lemmas.Result.{err_from_is_err_and}
use Rattle.debctl_commands.proofs.DocumentReports.{not_checked}
use Rattle.debctl_commands.proofs.document_jobs.write_verdict.Goals as goal

pub returns-in_err-paragraphs-clause-checks : goal.returns-in_err-paragraphs-clause-checks
returns-in_err-paragraphs-clause-checks g c =
    let p = err_from_is_err_and c.from_residual.result c.from_residual.ensures.1 in
    rw (p.1, p.2)
    (not_checked c.args.doc (g.R.Source.left c.args.first.now) (g.R.Source.failures c.args.first.now) (g.R.Source.failures c.check.new.reader) g.W.Sink.held g.W.Sink.failures c.args.out.now _
    c.in_err-paragraphs.ensures.refused c.in_err-paragraphs.ensures.fault c.in_err-paragraphs.ensures.counts_read_failure)
