use Rattle.debctl_commands.specs.JobDevices.{writer_of}
use Rattle.debctl_commands.specs.OpenedFiles.{opener}
use Rattle.debctl_commands.proofs.SelectEndings.{refuses_select, says_select, three_if_unopened, three_if_unreported, three_if_unwritten}
use Rattle.debctl_commands.proofs.select_job.run_select.Goals as goal

pub returns-clause-done : goal.returns-clause-done
returns-clause-done g c = says_select (opener g.F.Opens.opens g.F.Opens.text g.F.Opens.failures g.F.Reader.Source.left g.F.Reader.Source.failures) c.args.select.now c.args.files.now c.report_select.new.files
    (writer_of g.W.Sink.held g.W.Sink.failures c.args.out.now c.report_select.new.out) (writer_of g.E.Sink.held g.E.Sink.failures c.args.err.now c.report_select.new.err) c.report_select.result c.report_select.ensures

pub returns-clause-refused : goal.returns-clause-refused
returns-clause-refused g c = refuses_select (opener g.F.Opens.opens g.F.Opens.text g.F.Opens.failures g.F.Reader.Source.left g.F.Reader.Source.failures) c.args.select.now c.args.files.now c.report_select.new.files
    (writer_of g.W.Sink.held g.W.Sink.failures c.args.out.now c.report_select.new.out) (writer_of g.E.Sink.held g.E.Sink.failures c.args.err.now c.report_select.new.err) c.report_select.result c.report_select.ensures

pub returns-clause-status_3_if_opening_failed : goal.returns-clause-status_3_if_opening_failed
returns-clause-status_3_if_opening_failed g c = λ rose.
    three_if_unopened (opener g.F.Opens.opens g.F.Opens.text g.F.Opens.failures g.F.Reader.Source.left g.F.Reader.Source.failures) c.args.select.now c.args.files.now c.report_select.new.files
    (writer_of g.W.Sink.held g.W.Sink.failures c.args.out.now c.report_select.new.out) (writer_of g.E.Sink.held g.E.Sink.failures c.args.err.now c.report_select.new.err) c.report_select.result rose c.report_select.ensures

pub returns-clause-status_3_if_write_failed : goal.returns-clause-status_3_if_write_failed
returns-clause-status_3_if_write_failed g c = λ rose.
    three_if_unwritten (opener g.F.Opens.opens g.F.Opens.text g.F.Opens.failures g.F.Reader.Source.left g.F.Reader.Source.failures) c.args.select.now c.args.files.now c.report_select.new.files
    (writer_of g.W.Sink.held g.W.Sink.failures c.args.out.now c.report_select.new.out) (writer_of g.E.Sink.held g.E.Sink.failures c.args.err.now c.report_select.new.err) c.report_select.result rose c.report_select.ensures

pub returns-clause-status_3_if_err_failed : goal.returns-clause-status_3_if_err_failed
returns-clause-status_3_if_err_failed g c = λ rose.
    three_if_unreported (opener g.F.Opens.opens g.F.Opens.text g.F.Opens.failures g.F.Reader.Source.left g.F.Reader.Source.failures) c.args.select.now c.args.files.now c.report_select.new.files
    (writer_of g.W.Sink.held g.W.Sink.failures c.args.out.now c.report_select.new.out) (writer_of g.E.Sink.held g.E.Sink.failures c.args.err.now c.report_select.new.err) c.report_select.result rose c.report_select.ensures
