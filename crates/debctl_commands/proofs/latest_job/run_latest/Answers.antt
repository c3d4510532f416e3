use Rattle.debctl_commands.specs.JobDevices.{writer_of}
use Rattle.debctl_commands.specs.OpenedFiles.{opener}
use Rattle.debctl_commands.specs.Promises.{done}
use Rattle.debctl_commands.specs.LatestJob.{AsksLatest}
use Rattle.debctl_commands.proofs.Endings.{answered, low_done, refused, three_if_fault, three_if_unreported}
use Rattle.debctl_commands.proofs.LatestAnswers.{latest_opened, latest_written}
use Rattle.debctl_commands.proofs.latest_job.run_latest.Goals as goal

pub returns-clause-done : goal.returns-clause-done
returns-clause-done g c = answered done low_done (AsksLatest (opener g.F.Opens.opens g.F.Opens.text g.F.Opens.failures g.F.Reader.Source.left g.F.Reader.Source.failures) c.args.latest.now c.args.files.now c.report_latest.new.files (writer_of g.W.Sink.held g.W.Sink.failures c.args.out.now c.report_latest.new.out)) (writer_of g.E.Sink.held g.E.Sink.failures c.args.err.now c.report_latest.new.err) c.report_latest.result c.report_latest.ensures

pub returns-clause-refused : goal.returns-clause-refused
returns-clause-refused g c = refused done low_done (AsksLatest (opener g.F.Opens.opens g.F.Opens.text g.F.Opens.failures g.F.Reader.Source.left g.F.Reader.Source.failures) c.args.latest.now c.args.files.now c.report_latest.new.files (writer_of g.W.Sink.held g.W.Sink.failures c.args.out.now c.report_latest.new.out)) (writer_of g.E.Sink.held g.E.Sink.failures c.args.err.now c.report_latest.new.err) c.report_latest.result c.report_latest.ensures

pub returns-clause-status_3_if_opening_failed : goal.returns-clause-status_3_if_opening_failed
returns-clause-status_3_if_opening_failed g c = λ rose.
    three_if_fault done low_done (AsksLatest (opener g.F.Opens.opens g.F.Opens.text g.F.Opens.failures g.F.Reader.Source.left g.F.Reader.Source.failures) c.args.latest.now c.args.files.now c.report_latest.new.files (writer_of g.W.Sink.held g.W.Sink.failures c.args.out.now c.report_latest.new.out)) (writer_of g.E.Sink.held g.E.Sink.failures c.args.err.now c.report_latest.new.err) c.report_latest.result (latest_opened (opener g.F.Opens.opens g.F.Opens.text g.F.Opens.failures g.F.Reader.Source.left g.F.Reader.Source.failures) c.args.latest.now c.args.files.now c.report_latest.new.files (writer_of g.W.Sink.held g.W.Sink.failures c.args.out.now c.report_latest.new.out) rose) c.report_latest.ensures

pub returns-clause-status_3_if_write_failed : goal.returns-clause-status_3_if_write_failed
returns-clause-status_3_if_write_failed g c = λ rose.
    three_if_fault done low_done (AsksLatest (opener g.F.Opens.opens g.F.Opens.text g.F.Opens.failures g.F.Reader.Source.left g.F.Reader.Source.failures) c.args.latest.now c.args.files.now c.report_latest.new.files (writer_of g.W.Sink.held g.W.Sink.failures c.args.out.now c.report_latest.new.out)) (writer_of g.E.Sink.held g.E.Sink.failures c.args.err.now c.report_latest.new.err) c.report_latest.result (latest_written (opener g.F.Opens.opens g.F.Opens.text g.F.Opens.failures g.F.Reader.Source.left g.F.Reader.Source.failures) c.args.latest.now c.args.files.now c.report_latest.new.files (writer_of g.W.Sink.held g.W.Sink.failures c.args.out.now c.report_latest.new.out) rose) c.report_latest.ensures

pub returns-clause-status_3_if_err_failed : goal.returns-clause-status_3_if_err_failed
returns-clause-status_3_if_err_failed g c = three_if_unreported done low_done (AsksLatest (opener g.F.Opens.opens g.F.Opens.text g.F.Opens.failures g.F.Reader.Source.left g.F.Reader.Source.failures) c.args.latest.now c.args.files.now c.report_latest.new.files (writer_of g.W.Sink.held g.W.Sink.failures c.args.out.now c.report_latest.new.out)) (writer_of g.E.Sink.held g.E.Sink.failures c.args.err.now c.report_latest.new.err) c.report_latest.result c.report_latest.ensures
