use Rattle.std.proofs.Common.{Ok, Err, refl}
use Rattle.debctl_commands.specs.JobDevices.{writer_of}
use Rattle.debctl_commands.specs.OpenedFiles.{opener}
use Rattle.debctl_commands.specs.SelectJob.{paths_asked}
use Rattle.debctl_commands.proofs.SelectFiles.{selects_paths}
use Rattle.debctl_commands.proofs.select_job.select_all.Goals as goal

pub returns-in-Ok : goal.returns-in-Ok
returns-in-Ok g c = λ asked is.
    let put = c.put_count.ensures in
    record {
      read = Ok c.in-Ok.tally;
      between = c.select_paths.new.out;
      selects = selects_paths (opener g.F.Opens.opens g.F.Opens.text g.F.Opens.failures g.F.Reader.Source.left g.F.Reader.Source.failures) asked (paths_asked c.args.select.now) c.args.files.now c.select_paths.new.files (writer_of g.W.Sink.held g.W.Sink.failures c.args.out.now c.select_paths.new.out) (writer_of g.E.Sink.held g.E.Sink.failures c.args.err.now c.select_paths.new.err) (Ok c.in-Ok.tally) (rw c.deref.ensures.value at (c.in-Ok.ensures asked is));
      ends = record { put = c.put_count.result; is = c.at_role.ensures; same = put.ok; fault = put.fault; written = put.written; counted = put.counts_failure };
    }

pub returns-in-Err : goal.returns-in-Err
returns-in-Err g c = λ asked is. record {
  read = Err c.in-Err.fault;
  between = c.select_paths.new.out;
  selects = selects_paths (opener g.F.Opens.opens g.F.Opens.text g.F.Opens.failures g.F.Reader.Source.left g.F.Reader.Source.failures) asked (paths_asked c.args.select.now) c.args.files.now c.select_paths.new.files (writer_of g.W.Sink.held g.W.Sink.failures c.args.out.now c.select_paths.new.out) (writer_of g.E.Sink.held g.E.Sink.failures c.args.err.now c.select_paths.new.err) (Err c.in-Err.fault) (rw c.deref.ensures.value at (c.in-Err.ensures asked is));
  ends = (rw (c.among.ensures, c.files_in.ensures, c.deref-in-Err.ensures.value) refl, refl);
}
