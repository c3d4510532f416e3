use Rattle.std.proofs.Common.{arith}
use Rattle.debctl_commands.specs.JobDevices.{writer_of}
use Rattle.debctl_commands.specs.OpenedFiles.{opener}
use Rattle.debctl_commands.specs.Promises.{yes_or_no}
use Rattle.debctl_commands.specs.QueryOver.{QueriesOver}
use Rattle.debctl_commands.proofs.Endings.{answered_so, low_yes_or_no, refused, three_if_fault, three_if_unreported}
use Rattle.debctl_commands.proofs.QueryOvers.{query_opened, query_written}
use Rattle.debctl_commands.proofs.query_over.run_query_over.Goals as goal

pub returns-clause-done : goal.returns-clause-done
returns-clause-done g c = answered_so yes_or_no low_yes_or_no (QueriesOver (opener g.F.Opens.opens g.F.Opens.text g.F.Opens.failures g.F.Reader.Source.left g.F.Reader.Source.failures) c.args.query.now c.args.files.now c.report_query.new.files (writer_of g.W.Sink.held g.W.Sink.failures c.args.out.now c.report_query.new.out)) (writer_of g.E.Sink.held g.E.Sink.failures c.args.err.now c.report_query.new.err) c.report_query.result 0 (omega arith) c.report_query.ensures

pub returns-clause-no : goal.returns-clause-no
returns-clause-no g c = answered_so yes_or_no low_yes_or_no (QueriesOver (opener g.F.Opens.opens g.F.Opens.text g.F.Opens.failures g.F.Reader.Source.left g.F.Reader.Source.failures) c.args.query.now c.args.files.now c.report_query.new.files (writer_of g.W.Sink.held g.W.Sink.failures c.args.out.now c.report_query.new.out)) (writer_of g.E.Sink.held g.E.Sink.failures c.args.err.now c.report_query.new.err) c.report_query.result 1 (omega arith) c.report_query.ensures

pub returns-clause-refused : goal.returns-clause-refused
returns-clause-refused g c = refused yes_or_no low_yes_or_no (QueriesOver (opener g.F.Opens.opens g.F.Opens.text g.F.Opens.failures g.F.Reader.Source.left g.F.Reader.Source.failures) c.args.query.now c.args.files.now c.report_query.new.files (writer_of g.W.Sink.held g.W.Sink.failures c.args.out.now c.report_query.new.out)) (writer_of g.E.Sink.held g.E.Sink.failures c.args.err.now c.report_query.new.err) c.report_query.result c.report_query.ensures

pub returns-clause-status_3_if_opening_failed : goal.returns-clause-status_3_if_opening_failed
returns-clause-status_3_if_opening_failed g c = λ rose.
    three_if_fault yes_or_no low_yes_or_no (QueriesOver (opener g.F.Opens.opens g.F.Opens.text g.F.Opens.failures g.F.Reader.Source.left g.F.Reader.Source.failures) c.args.query.now c.args.files.now c.report_query.new.files (writer_of g.W.Sink.held g.W.Sink.failures c.args.out.now c.report_query.new.out)) (writer_of g.E.Sink.held g.E.Sink.failures c.args.err.now c.report_query.new.err) c.report_query.result (query_opened (opener g.F.Opens.opens g.F.Opens.text g.F.Opens.failures g.F.Reader.Source.left g.F.Reader.Source.failures) c.args.query.now c.report_query.new.files (writer_of g.W.Sink.held g.W.Sink.failures c.args.out.now c.report_query.new.out) c.args.files.now rose) c.report_query.ensures

pub returns-clause-status_3_if_write_failed : goal.returns-clause-status_3_if_write_failed
returns-clause-status_3_if_write_failed g c = λ rose.
    three_if_fault yes_or_no low_yes_or_no (QueriesOver (opener g.F.Opens.opens g.F.Opens.text g.F.Opens.failures g.F.Reader.Source.left g.F.Reader.Source.failures) c.args.query.now c.args.files.now c.report_query.new.files (writer_of g.W.Sink.held g.W.Sink.failures c.args.out.now c.report_query.new.out)) (writer_of g.E.Sink.held g.E.Sink.failures c.args.err.now c.report_query.new.err) c.report_query.result (query_written (opener g.F.Opens.opens g.F.Opens.text g.F.Opens.failures g.F.Reader.Source.left g.F.Reader.Source.failures) c.args.query.now c.report_query.new.files (writer_of g.W.Sink.held g.W.Sink.failures c.args.out.now c.report_query.new.out) c.args.files.now rose) c.report_query.ensures

pub returns-clause-status_3_if_err_failed : goal.returns-clause-status_3_if_err_failed
returns-clause-status_3_if_err_failed g c = three_if_unreported yes_or_no low_yes_or_no (QueriesOver (opener g.F.Opens.opens g.F.Opens.text g.F.Opens.failures g.F.Reader.Source.left g.F.Reader.Source.failures) c.args.query.now c.args.files.now c.report_query.new.files (writer_of g.W.Sink.held g.W.Sink.failures c.args.out.now c.report_query.new.out)) (writer_of g.E.Sink.held g.E.Sink.failures c.args.err.now c.report_query.new.err) c.report_query.result c.report_query.ensures
