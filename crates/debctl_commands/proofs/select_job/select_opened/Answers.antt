use Rattle.std.proofs.Common.{refl, sym}
use Rattle.debctl_commands.specs.SelectJob.{request_after}
use Rattle.debctl_commands.proofs.SelectFiles.{fault_added, file_added}
use Rattle.debctl_commands.proofs.select_job.select_opened.Goals as goal

pub returns-in-Ok-clause-adds : goal.returns-in-Ok-clause-adds
returns-in-Ok-clause-adds g c = λ asked is.
    let wrote = c.in-Ok.ensures in
    file_added asked g.W.Sink.held g.W.Sink.failures c.args.tally c.args.out.now c.write.new.writer c.args.err.now (g.R.Source.left c.args.reader.now) c.in-Ok.outcome c.tally_after.result
    (λ text known. wrote.ok (request_after asked c.args.tally) text (sym is.form) refl is.has known) wrote.counts_write_failure c.tally_after.ensures.ok c.tally_after.ensures.fault

pub returns-in-Err-clause-adds : goal.returns-in-Err-clause-adds
returns-in-Err-clause-adds g c = λ asked is.
    let wrote = c.in-Err.ensures in
    let asks = request_after asked c.args.tally in
    fault_added asked g.W.Sink.held g.W.Sink.failures c.args.tally c.args.out.now c.write.new.writer c.args.err.now (g.R.Source.left c.args.reader.now) c.in-Err.fault
    (λ text known. wrote.refused asks text (sym is.form) refl is.has known) (λ text known. wrote.cut_off asks text (sym is.form) refl is.has known) (λ text known. wrote.write asks text (sym is.form) refl is.has known) wrote.refusal wrote.counts_write_failure
