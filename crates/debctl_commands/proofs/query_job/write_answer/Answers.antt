use Rattle.std.proofs.lemmas.Result.{err_from_is_err_and}
use Rattle.deb_index.specs.Indexes.{packages_of, spellings_of}
use Rattle.debctl_commands.proofs.QueryReports.{good_words, index_refused, queries_over}
use Rattle.debctl_commands.proofs.query_job.write_answer.Goals as goal

pub returns-in_err-index-clause-queries : goal.returns-in_err-index-clause-queries
returns-in_err-index-clause-queries g c = λ q asks.
    let p = err_from_is_err_and c.from_residual.result c.from_residual.ensures.1 in
    rw (p.1, p.2)
    (index_refused c.args.members c.args.options q (g.R.Source.left c.args.first.now) (g.R.Source.failures c.args.first.now) (g.R.Source.failures c.read_members.new.reader) g.W.Sink.held g.W.Sink.failures c.args.out.now _
    (good_words q c.args.question.now asks) c.in_err-index.ensures.refused c.in_err-index.ensures.fault c.in_err-index.ensures.counts_read_failure)

pub returns-clause-queries : goal.returns-clause-queries
returns-clause-queries g c = λ q asks.
    queries_over c.args.members c.args.options q (g.R.Source.left c.args.first.now) (g.R.Source.failures c.args.first.now) (g.R.Source.failures c.read_members.new.reader) g.W.Sink.held g.W.Sink.failures c.args.out.now c.write_over.new.out c.write_over.result
    (good_words q c.args.question.now asks) (spellings_of c.in_ok-index.index) (packages_of c.in_ok-index.index) c.in_ok-index.ensures.ok c.in_ok-index.ensures.spellings c.in_ok-index.ensures.counts_read_failure (rw asks.is at c.write_over.ensures)
