use Rattle.std.proofs.Common.{refl, sym}
use Rattle.debctl_commands.specs.JobDevices.{writer_of}
use Rattle.debctl_commands.specs.SelectJob.{request_after}
use Rattle.debctl_commands.proofs.SelectAccepted.{fault_added, file_added}
use Rattle.debctl_commands.proofs.select_accepted_job.accept_opened.Goals as goal

pub returns-in-Ok-clause-adds : goal.returns-in-Ok-clause-adds
returns-in-Ok-clause-adds g c = λ asked is.
    let wrote = c.in-Ok.ensures in
    let asks = request_after asked c.args.total.selected in
    file_added asked (writer_of g.W.Sink.held g.W.Sink.failures c.args.out.now c.write_accepted.new.writer) (writer_of g.E.Sink.held g.E.Sink.failures c.args.err.now c.write_accepted.new.reports) c.args.total (g.R.Source.left c.args.reader.now) c.in-Ok.accepted c.total_after.result
    (λ text known. wrote.ok asks text (sym is.form) refl is.has known) (λ text known. wrote.reported asks text is.has known) wrote.counts_write_failure c.total_after.ensures.ok c.total_after.ensures.fault

pub returns-in-Err-clause-adds : goal.returns-in-Err-clause-adds
returns-in-Err-clause-adds g c = λ asked is.
    let wrote = c.in-Err.ensures in
    let asks = request_after asked c.args.total.selected in
    fault_added asked (writer_of g.W.Sink.held g.W.Sink.failures c.args.out.now c.write_accepted.new.writer) (writer_of g.E.Sink.held g.E.Sink.failures c.args.err.now c.write_accepted.new.reports) c.args.total (g.R.Source.left c.args.reader.now) c.in-Err.fault
    (λ text known. wrote.cut_off asks text (sym is.form) refl is.has known) (λ text known. wrote.reported_first asks text is.has known) (λ text known. wrote.write asks text (sym is.form) refl is.has known) (λ text known. wrote.reported_part asks text is.has known) wrote.fault wrote.counts_write_failure
