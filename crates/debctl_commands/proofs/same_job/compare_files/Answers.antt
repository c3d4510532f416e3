use Rattle.std.proofs.Common.{refl}
use Rattle.debctl_commands.specs.JobDevices.{reader_of, writer_of}
use Rattle.debctl_commands.proofs.SameReports.{compared, not_compared}
use Rattle.debctl_commands.proofs.same_job.compare_files.Goals as goal

pub returns-in-Ok-clause-compares : goal.returns-in-Ok-clause-compares
returns-in-Ok-clause-compares g c =
    compared c.args.doc (reader_of (g.R.Source.left c.args.first.now) (g.R.Source.failures c.args.first.now) (g.R.Source.failures c.same.new.first)) (reader_of (g.S.Source.left c.args.second.now) (g.S.Source.failures c.args.second.now) (g.S.Source.failures c.same.new.second))
    (writer_of g.W.Sink.held g.W.Sink.failures c.args.out.now c.put_answer.new.out) c.in-Ok.is_same c.put_answer.result c.put_answer.ensures c.in-Ok.ensures.ok c.in-Ok.ensures.counts_first_failure c.in-Ok.ensures.counts_second_failure

pub returns-in-Err-clause-compares : goal.returns-in-Err-clause-compares
returns-in-Err-clause-compares g c =
    not_compared c.args.doc (reader_of (g.R.Source.left c.args.first.now) (g.R.Source.failures c.args.first.now) (g.R.Source.failures c.same.new.first)) (reader_of (g.S.Source.left c.args.second.now) (g.S.Source.failures c.args.second.now) (g.S.Source.failures c.same.new.second))
    (writer_of g.W.Sink.held g.W.Sink.failures c.args.out.now c.args.out.now) c.in-Err.side_fault.side c.in-Err.side_fault.fault refl c.in-Err.ensures.first c.in-Err.ensures.second c.in-Err.ensures.fault c.in-Err.ensures.counts_first_failure c.in-Err.ensures.counts_second_failure
