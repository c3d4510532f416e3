use Rattle.std.proofs.Common.{ap, Ok, Err, refl}
use Rattle.deb_base.specs.declared.fault.Fault.TheVariants.{Read}
use Rattle.debctl_commands.specs.LatestJob.{step_status}
use Rattle.debctl_commands.proofs.LatestWritten.{front_written}
use Rattle.debctl_commands.proofs.latest_job.write_path.Goals as goal

pub returns-in-Ok : goal.returns-in-Ok
returns-in-Ok g c =
    let opened = c.in-Ok.ensures in
    let wrote = c.write.ensures in
    record {
      answer = c.write.result;
      is = ap step_status c.unless_changed.ensures;
      opens = record {
        opened = Ok c.in-Ok.reader;
        rest = Ok c.write.new.reader;
        opens_once = opened.opens;
        known = opened.text;
        unchanged = opened.unchanged;
        counts_unopened = opened.counts_failure;
        reads = (
          (wrote.reads_at_most, wrote.counts_read_failure),
          record {
            ok = wrote.ok;
            front = λ numbers count before text has known. front_written numbers before text (g.W.Sink.held c.args.out.now) (g.W.Sink.held c.write.new.writer) c.write.result
                (wrote.refused numbers count before text has known) (wrote.cut_off numbers count before text has known) (wrote.write numbers count before text has known);
            counted = wrote.counts_write_failure;
          },
        );
      };
    }

pub returns-in-Err : goal.returns-in-Err
returns-in-Err g c =
    let opened = c.in-Err.ensures in
    record {
      answer = Err Read;
      is = refl;
      opens = record {
        opened = Err c.in-Err.field-0;
        rest = Err c.in-Err.field-0;
        opens_once = opened.opens;
        known = tt;
        unchanged = opened.unchanged;
        counts_unopened = opened.counts_failure;
        reads = (refl, (refl, refl));
      };
    }
