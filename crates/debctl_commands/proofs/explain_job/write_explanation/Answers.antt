use Rattle.std.proofs.Common.{true, false, inl, inr}
use Rattle.std.proofs.lemmas.Result.{err_from_is_err_and}
use Rattle.deb_explain.specs.Shown.{shown_by}
use Rattle.debctl_commands.proofs.ExplainReports.{answer_written, front_written}
use Rattle.debctl_commands.proofs.explain_job.write_explanation.Goals as goal

pub returns-in_ok-put_ok_line-in-Accepted-clause-explains : goal.returns-in_ok-put_ok_line-in-Accepted-clause-explains
returns-in_ok-put_ok_line-in-Accepted-clause-explains g c =
    let accepted = rw c.in-Accepted.is at c.in_ok-paragraphs.ensures.accepted in
    answer_written g.row.W.Denot c.args.doc c.args.path.now (g.R.Source.left c.args.first.now) (g.R.Source.failures c.args.first.now) (g.R.Source.failures c.explain.new.reader) g.W.Sink.held g.W.Sink.failures c.args.out.now c.put_ok_line.new.out
    c.in_ok-paragraphs.ensures.counts_read_failure true
    (λ text left. record { count = c.in-Accepted.paragraphs; paragraphs = accepted text left; written = c.in_ok-put_ok_line-in-Accepted.ensures.written })
    c.in_ok-put_ok_line-in-Accepted.ensures.counts_failure

pub returns-in_ok-write-in-Refused-clause-explains : goal.returns-in_ok-write-in-Refused-clause-explains
returns-in_ok-write-in-Refused-clause-explains g c =
    let refused = rw c.in-Refused.is at c.in_ok-paragraphs.ensures.refused in
    answer_written g.row.W.Denot c.args.doc c.args.path.now (g.R.Source.left c.args.first.now) (g.R.Source.failures c.args.first.now) (g.R.Source.failures c.explain.new.reader) g.W.Sink.held g.W.Sink.failures c.args.out.now c.write.new.out
    c.in_ok-paragraphs.ensures.counts_read_failure false
    (λ text left. record { reported = shown_by c.in-Refused.explanation; explained = refused text left; written = c.in_ok-write-in-Refused.ensures.written })
    c.in_ok-write-in-Refused.ensures.counts_failure

pub returns-in_err-put_ok_line-in-Accepted-clause-explains : goal.returns-in_err-put_ok_line-in-Accepted-clause-explains
returns-in_err-put_ok_line-in-Accepted-clause-explains g c =
    let accepted = rw c.in-Accepted.is at c.in_ok-paragraphs.ensures.accepted in
    let p = err_from_is_err_and c.from_residual-in_err-put_ok_line-in-Accepted.result c.from_residual-in_err-put_ok_line-in-Accepted.ensures.1 in
    rw (p.1, p.2)
    (front_written g.row.W.Denot c.args.doc c.args.path.now (g.R.Source.left c.args.first.now) (g.R.Source.failures c.args.first.now) (g.R.Source.failures c.explain.new.reader) g.W.Sink.held g.W.Sink.failures c.args.out.now c.put_ok_line.new.out
    c.in_ok-paragraphs.ensures.counts_read_failure c.in_err-put_ok_line-in-Accepted.field-0.0 c.in_err-put_ok_line-in-Accepted.ensures.fault
    (λ text left. inl (record { count = c.in-Accepted.paragraphs; paragraphs = accepted text left; written = c.in_err-put_ok_line-in-Accepted.ensures.written }))
    c.in_err-put_ok_line-in-Accepted.ensures.counts_failure)

pub returns-in_err-write-in-Refused-clause-explains : goal.returns-in_err-write-in-Refused-clause-explains
returns-in_err-write-in-Refused-clause-explains g c =
    let refused = rw c.in-Refused.is at c.in_ok-paragraphs.ensures.refused in
    let p = err_from_is_err_and c.from_residual-in_err-write-in-Refused.result c.from_residual-in_err-write-in-Refused.ensures.1 in
    rw (p.1, p.2)
    (front_written g.row.W.Denot c.args.doc c.args.path.now (g.R.Source.left c.args.first.now) (g.R.Source.failures c.args.first.now) (g.R.Source.failures c.explain.new.reader) g.W.Sink.held g.W.Sink.failures c.args.out.now c.write.new.out
    c.in_ok-paragraphs.ensures.counts_read_failure c.in_err-write-in-Refused.field-0.0 c.in_err-write-in-Refused.ensures.fault
    (λ text left. inr (record { reported = shown_by c.in-Refused.explanation; explained = refused text left; written = c.in_err-write-in-Refused.ensures.written }))
    c.in_err-write-in-Refused.ensures.counts_failure)
