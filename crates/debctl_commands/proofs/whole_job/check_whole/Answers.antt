use Rattle.std.proofs.lemmas.Result.{err_from_is_err_and}
use Rattle.debctl_commands.proofs.WholeReports.{answers_complete, found_plainly, not_accepted}
use Rattle.debctl_commands.proofs.whole_job.check_whole.Goals as goal

pub returns-then-demands : goal.returns-then-demands
returns-then-demands g c =
    answers_complete c.args.doc (g.R.Source.left c.args.reader.now) (g.R.Source.left c.check_complete.new.reader) (g.R.Source.failures c.args.reader.now) (g.R.Source.failures c.check_complete.new.reader) c.check_complete.ensures.reads_at_most
    c.args.demands c.if-demands.true c.check_complete.ensures

pub returns-in_err-paragraphs : goal.returns-in_err-paragraphs
returns-in_err-paragraphs g c =
    let p = err_from_is_err_and c.from_residual.result c.from_residual.ensures.1 in
    rw (p.1, p.2)
    (not_accepted c.args.doc (g.R.Source.left c.args.reader.now) (g.R.Source.left c.check.new.reader) (g.R.Source.failures c.args.reader.now) (g.R.Source.failures c.check.new.reader) c.in_err-paragraphs.ensures.reads_at_most
    c.args.demands _ c.in_err-paragraphs.ensures.refused c.in_err-paragraphs.ensures.fault c.in_err-paragraphs.ensures.counts_read_failure)

pub returns : goal.returns
returns g c =
    found_plainly c.args.doc (g.R.Source.left c.args.reader.now) (g.R.Source.left c.check.new.reader) (g.R.Source.failures c.args.reader.now) (g.R.Source.failures c.check.new.reader) c.in_ok-paragraphs.ensures.reads_at_most
    c.args.demands c.if-demands.false c.in_ok-paragraphs.paragraphs c.by.result c.by.ensures c.in_ok-paragraphs.ensures.ok c.in_ok-paragraphs.ensures.counts_read_failure
