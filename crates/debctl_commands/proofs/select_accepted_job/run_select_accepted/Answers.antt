use Rattle.std.proofs.Common.{inl, inr}
use Rattle.debctl_commands.specs.JobDevices.{writer_of}
use Rattle.debctl_commands.specs.OpenedFiles.{opener}
use Rattle.debctl_commands.proofs.SelectAcceptedEndings.{says_accepted, three_if_failed}
use Rattle.debctl_commands.proofs.select_accepted_job.run_select_accepted.Goals as goal

pub returns-clause-done : goal.returns-clause-done
returns-clause-done g c = says_accepted (opener g.F.Opens.opens g.F.Opens.text g.F.Opens.failures g.F.Reader.Source.left g.F.Reader.Source.failures) c.args.select.now c.args.files.now c.report_accepted.new.files
    (writer_of g.W.Sink.held g.W.Sink.failures c.args.out.now c.report_accepted.new.out) (writer_of g.E.Sink.held g.E.Sink.failures c.args.err.now c.report_accepted.new.err) c.report_accepted.result c.report_accepted.ensures

pub returns-clause-status_3_if_opening_failed : goal.returns-clause-status_3_if_opening_failed
returns-clause-status_3_if_opening_failed g c = λ rose.
    three_if_failed (opener g.F.Opens.opens g.F.Opens.text g.F.Opens.failures g.F.Reader.Source.left g.F.Reader.Source.failures) c.args.select.now c.args.files.now c.report_accepted.new.files
    (writer_of g.W.Sink.held g.W.Sink.failures c.args.out.now c.report_accepted.new.out) (writer_of g.E.Sink.held g.E.Sink.failures c.args.err.now c.report_accepted.new.err) c.report_accepted.result c.report_accepted.ensures (inl rose)

pub returns-clause-status_3_if_write_failed : goal.returns-clause-status_3_if_write_failed
returns-clause-status_3_if_write_failed g c = λ rose.
    three_if_failed (opener g.F.Opens.opens g.F.Opens.text g.F.Opens.failures g.F.Reader.Source.left g.F.Reader.Source.failures) c.args.select.now c.args.files.now c.report_accepted.new.files
    (writer_of g.W.Sink.held g.W.Sink.failures c.args.out.now c.report_accepted.new.out) (writer_of g.E.Sink.held g.E.Sink.failures c.args.err.now c.report_accepted.new.err) c.report_accepted.result c.report_accepted.ensures (inr (inl rose))

pub returns-clause-status_3_if_err_failed : goal.returns-clause-status_3_if_err_failed
returns-clause-status_3_if_err_failed g c = λ rose.
    three_if_failed (opener g.F.Opens.opens g.F.Opens.text g.F.Opens.failures g.F.Reader.Source.left g.F.Reader.Source.failures) c.args.select.now c.args.files.now c.report_accepted.new.files
    (writer_of g.W.Sink.held g.W.Sink.failures c.args.out.now c.report_accepted.new.out) (writer_of g.E.Sink.held g.E.Sink.failures c.args.err.now c.report_accepted.new.err) c.report_accepted.result c.report_accepted.ensures (inr (inr rose))
