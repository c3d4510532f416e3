use Rattle.std.proofs.Common.{Ok, Err, refl, subst, ◌∙◌}
use Rattle.debctl_commands.specs.JobDevices.{writer_of}
use Rattle.debctl_commands.specs.SelectAcceptedJob.{AddsAccepted, read_so_far, with_both}
use Rattle.debctl_commands.proofs.SelectAccepted.{reads_counted, unopened_added}
use Rattle.debctl_commands.proofs.select_accepted_job.accept_file.Goals as goal

pub returns-in-Ok : goal.returns-in-Ok
returns-in-Ok g c = λ asked is.
    let opened = c.in-Ok.ensures in
    let read = c.accept_opened.ensures in
    record {
      reads = record {
        opened = Ok c.in-Ok.reader;
        rest = Ok c.accept_opened.new.reader;
        opens_once = opened.opens;
        known = opened.text;
        unchanged = opened.unchanged;
        counts_unopened = opened.counts_failure;
        reads = (read.reads_at_most, read.counts_read_failure ∙ reads_counted _ c.accept_opened.new.out c.accept_opened.new.err c.accept_opened.result);
      };
      adds = subst (λ left. AddsAccepted asked (writer_of g.W.Sink.held g.W.Sink.failures c.args.out.now c.accept_opened.new.out) (writer_of g.E.Sink.held g.E.Sink.failures c.args.err.now c.accept_opened.new.err) (read_so_far c.args.total c.args.out.now c.args.err.now) left (with_both c.accept_opened.new.out c.accept_opened.new.err c.accept_opened.result)) opened.text (read.adds asked is);
    }

pub returns-in-Err : goal.returns-in-Err
returns-in-Err g c = λ asked is.
    let opened = c.in-Err.ensures in
    record {
      reads = record {
        opened = Err c.in-Err.field-0;
        rest = Err c.in-Err.field-0;
        opens_once = opened.opens;
        known = tt;
        unchanged = opened.unchanged;
        counts_unopened = opened.counts_failure;
        reads = (refl, refl);
      };
      adds = unopened_added asked g.W.Sink.held g.W.Sink.failures g.E.Sink.held g.E.Sink.failures (read_so_far c.args.total c.args.out.now c.args.err.now) _;
    }
