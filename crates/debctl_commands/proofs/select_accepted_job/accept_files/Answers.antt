use Rattle.std.proofs.Common.{take, drop, map, string_bytes, ◌+◌, refl, arith}
use Rattle.debctl_commands.specs.JobDevices.{writer_of}
use Rattle.debctl_commands.specs.OpenedFiles.{ReadsMore, opener}
use Rattle.debctl_commands.specs.SelectAcceptedJob.{AddsAccepted, nothing_read, read_so_far}
use Rattle.debctl_commands.proofs.InOrderSteps.{in_order_more, in_order_stopped}
use Rattle.debctl_commands.proofs.PathLists.{bytes_before, bytes_more, bytes_split}
use Rattle.debctl_commands.proofs.SelectAccepted.{fault_any, reads_any}
use Rattle.debctl_commands.proofs.select_accepted_job.accept_files.Goals as goal

pub loop-path-init : goal.loop-path-init
loop-path-init g c = record { order = λ asked is last last_err. rw c.nothing_read-total.ensures (refl, refl); place = refl }

pub loop-path-preserved : goal.loop-path-preserved
loop-path-preserved g c =
    let i = c.loop-path.path-index in
    record {
      order = λ asked is last last_err.
          rw (bytes_more c.args.paths.now i c.path-item.result c.loop-path-test.true c.path-item.is)
          (in_order_more (ReadsMore (opener g.F.Opens.opens g.F.Opens.text g.F.Opens.failures g.F.Reader.Source.left g.F.Reader.Source.failures) (AddsAccepted asked (writer_of g.W.Sink.held g.W.Sink.failures c.args.out.now last) (writer_of g.E.Sink.held g.E.Sink.failures c.args.err.now last_err))) 1 (map string_bytes (take i c.args.paths.now)) _ c.args.files.now c.loop-path.files c.accept_file.new.files
          (read_so_far nothing_read c.args.out.now c.args.err.now) (read_so_far c.loop-path.total c.loop-path.out c.loop-path.err) (read_so_far c.in-Ok.more c.accept_file.new.out c.accept_file.new.err) (c.loop-path.invariant.order asked is last last_err)
          (reads_any asked g.W.Sink.held g.W.Sink.failures g.E.Sink.held g.E.Sink.failures (opener g.F.Opens.opens g.F.Opens.text g.F.Opens.failures g.F.Reader.Source.left g.F.Reader.Source.failures) c.loop-path.out c.accept_file.new.out c.args.out.now last c.loop-path.err c.accept_file.new.err c.args.err.now last_err _ c.loop-path.files c.accept_file.new.files (read_so_far c.loop-path.total c.loop-path.out c.loop-path.err) (read_so_far c.in-Ok.more c.accept_file.new.out c.accept_file.new.err)
          (rw c.as_bytes.ensures.value at (c.in-Ok.ensures asked is))));
      place = omega (arith, c.loop-path.invariant.place);
    }

pub returns-in-Err : goal.returns-in-Err
returns-in-Err g c = λ asked is.
    let i = c.loop-path.path-index in
    rw (bytes_split c.args.paths.now i c.path-item.result c.loop-path-test.true c.path-item.is)
    (in_order_stopped (ReadsMore (opener g.F.Opens.opens g.F.Opens.text g.F.Opens.failures g.F.Reader.Source.left g.F.Reader.Source.failures) (AddsAccepted asked (writer_of g.W.Sink.held g.W.Sink.failures c.args.out.now c.accept_file.new.out) (writer_of g.E.Sink.held g.E.Sink.failures c.args.err.now c.accept_file.new.err))) 1 (map string_bytes (take i c.args.paths.now)) (map string_bytes (drop (i + 1) c.args.paths.now)) _ c.args.files.now c.loop-path.files c.accept_file.new.files
    (read_so_far nothing_read c.args.out.now c.args.err.now) (read_so_far c.loop-path.total c.loop-path.out c.loop-path.err) _ (c.loop-path.invariant.order asked is c.accept_file.new.out c.accept_file.new.err)
    (fault_any asked g.W.Sink.held g.W.Sink.failures g.E.Sink.held g.E.Sink.failures (opener g.F.Opens.opens g.F.Opens.text g.F.Opens.failures g.F.Reader.Source.left g.F.Reader.Source.failures) c.loop-path.out c.accept_file.new.out c.args.out.now c.loop-path.err c.accept_file.new.err c.args.err.now _ c.loop-path.files c.accept_file.new.files (read_so_far c.loop-path.total c.loop-path.out c.loop-path.err) c.in-Err.fault
    (rw c.as_bytes.ensures.value at (c.in-Err.ensures asked is)))
    (omega (arith, c.loop-path.invariant.place, bytes_before c.args.paths.now i c.loop-path-test.true)))
