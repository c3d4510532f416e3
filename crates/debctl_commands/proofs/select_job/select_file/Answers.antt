use Rattle.std.proofs.Common.{Ok, Err, refl, subst, ◌∙◌}
use Rattle.debctl_commands.specs.SelectJob.{AddsSelected, so_far, with_writers}
use Rattle.debctl_commands.proofs.SelectFiles.{reads_counted, unopened_added}
use Rattle.debctl_commands.proofs.select_job.select_file.Goals as goal

pub returns-in-Ok : goal.returns-in-Ok
returns-in-Ok g c = λ asked is.
    let opened = c.in-Ok.ensures in
    let read = c.select_opened.ensures in
    record {
      reads = record {
        opened = Ok c.in-Ok.reader;
        rest = Ok c.select_opened.new.reader;
        opens_once = opened.opens;
        known = opened.text;
        unchanged = opened.unchanged;
        counts_unopened = opened.counts_failure;
        reads = (read.reads_at_most, read.counts_read_failure ∙ reads_counted _ c.select_opened.new.out c.select_opened.new.err c.select_opened.result);
      };
      adds = subst (λ left. AddsSelected asked g.W.Sink.held g.W.Sink.failures c.select_opened.new.out c.select_opened.new.err (so_far c.args.tally c.args.out.now c.args.err.now) left (with_writers c.select_opened.new.out c.select_opened.new.err c.select_opened.result)) opened.text (read.adds asked is);
    }

pub returns-in-Err : goal.returns-in-Err
returns-in-Err g c = λ asked is.
    let opened = c.in-Err.ensures in
    record {
      reads = record {
        opened = Err c.in-Err.field-0;
        rest = Err c.in-Err.field-0;
        opens_once = opened.opens;
        known = tt;
        unchanged = opened.unchanged;
        counts_unopened = opened.counts_failure;
        reads = (refl, refl);
      };
      adds = unopened_added asked g.W.Sink.held g.W.Sink.failures (so_far c.args.tally c.args.out.now c.args.err.now) _;
    }
