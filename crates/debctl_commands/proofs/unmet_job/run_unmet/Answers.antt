use Rattle.std.proofs.Common.{arith}
use Rattle.debctl_commands.specs.JobDevices.{writer_of}
use Rattle.debctl_commands.specs.OpenedFiles.{opener}
use Rattle.debctl_commands.specs.SideAnswers.{unmet_report}
use Rattle.debctl_commands.specs.UnmetJob.{AsksUnmet}
use Rattle.debctl_commands.proofs.Endings.{answered_so, low_unmet, refused, three_if_fault, three_if_unreported}
use Rattle.debctl_commands.proofs.UnmetAnswers.{unmet_opened, unmet_written}
use Rattle.debctl_commands.proofs.unmet_job.run_unmet.Goals as goal

pub returns-clause-done : goal.returns-clause-done
returns-clause-done g c = answered_so unmet_report low_unmet (AsksUnmet (opener g.F.Opens.opens g.F.Opens.text g.F.Opens.failures g.F.Reader.Source.left g.F.Reader.Source.failures) c.args.asked.now c.args.files.now c.report_unmet.new.files (writer_of g.W.Sink.held g.W.Sink.failures c.args.out.now c.report_unmet.new.out)) (writer_of g.E.Sink.held g.E.Sink.failures c.args.err.now c.report_unmet.new.err) c.report_unmet.result 0 (omega arith) c.report_unmet.ensures

pub returns-clause-no : goal.returns-clause-no
returns-clause-no g c = answered_so unmet_report low_unmet (AsksUnmet (opener g.F.Opens.opens g.F.Opens.text g.F.Opens.failures g.F.Reader.Source.left g.F.Reader.Source.failures) c.args.asked.now c.args.files.now c.report_unmet.new.files (writer_of g.W.Sink.held g.W.Sink.failures c.args.out.now c.report_unmet.new.out)) (writer_of g.E.Sink.held g.E.Sink.failures c.args.err.now c.report_unmet.new.err) c.report_unmet.result 1 (omega arith) c.report_unmet.ensures

pub returns-clause-refused : goal.returns-clause-refused
returns-clause-refused g c = refused unmet_report low_unmet (AsksUnmet (opener g.F.Opens.opens g.F.Opens.text g.F.Opens.failures g.F.Reader.Source.left g.F.Reader.Source.failures) c.args.asked.now c.args.files.now c.report_unmet.new.files (writer_of g.W.Sink.held g.W.Sink.failures c.args.out.now c.report_unmet.new.out)) (writer_of g.E.Sink.held g.E.Sink.failures c.args.err.now c.report_unmet.new.err) c.report_unmet.result c.report_unmet.ensures

pub returns-clause-status_3_if_opening_failed : goal.returns-clause-status_3_if_opening_failed
returns-clause-status_3_if_opening_failed g c = λ rose.
    three_if_fault unmet_report low_unmet (AsksUnmet (opener g.F.Opens.opens g.F.Opens.text g.F.Opens.failures g.F.Reader.Source.left g.F.Reader.Source.failures) c.args.asked.now c.args.files.now c.report_unmet.new.files (writer_of g.W.Sink.held g.W.Sink.failures c.args.out.now c.report_unmet.new.out)) (writer_of g.E.Sink.held g.E.Sink.failures c.args.err.now c.report_unmet.new.err) c.report_unmet.result (unmet_opened (opener g.F.Opens.opens g.F.Opens.text g.F.Opens.failures g.F.Reader.Source.left g.F.Reader.Source.failures) c.args.asked.now c.report_unmet.new.files (writer_of g.W.Sink.held g.W.Sink.failures c.args.out.now c.report_unmet.new.out) c.args.files.now rose) c.report_unmet.ensures

pub returns-clause-status_3_if_write_failed : goal.returns-clause-status_3_if_write_failed
returns-clause-status_3_if_write_failed g c = λ rose.
    three_if_fault unmet_report low_unmet (AsksUnmet (opener g.F.Opens.opens g.F.Opens.text g.F.Opens.failures g.F.Reader.Source.left g.F.Reader.Source.failures) c.args.asked.now c.args.files.now c.report_unmet.new.files (writer_of g.W.Sink.held g.W.Sink.failures c.args.out.now c.report_unmet.new.out)) (writer_of g.E.Sink.held g.E.Sink.failures c.args.err.now c.report_unmet.new.err) c.report_unmet.result (unmet_written (opener g.F.Opens.opens g.F.Opens.text g.F.Opens.failures g.F.Reader.Source.left g.F.Reader.Source.failures) c.args.asked.now c.report_unmet.new.files (writer_of g.W.Sink.held g.W.Sink.failures c.args.out.now c.report_unmet.new.out) c.args.files.now rose) c.report_unmet.ensures

pub returns-clause-status_3_if_err_failed : goal.returns-clause-status_3_if_err_failed
returns-clause-status_3_if_err_failed g c = three_if_unreported unmet_report low_unmet (AsksUnmet (opener g.F.Opens.opens g.F.Opens.text g.F.Opens.failures g.F.Reader.Source.left g.F.Reader.Source.failures) c.args.asked.now c.args.files.now c.report_unmet.new.files (writer_of g.W.Sink.held g.W.Sink.failures c.args.out.now c.report_unmet.new.out)) (writer_of g.E.Sink.held g.E.Sink.failures c.args.err.now c.report_unmet.new.err) c.report_unmet.result c.report_unmet.ensures
