use Rattle.std.proofs.Common.{Ok}
use Rattle.debctl_commands.proofs.unmet_job.try_path.Goals as goal

pub returns-in-Ok : goal.returns-in-Ok
returns-in-Ok g c =
    let opened = c.in-Ok.ensures in
    let e = c.unmet.ensures in
    record {
      opened = Ok c.in-Ok.reader;
      rest = Ok c.unmet.new.reader;
      opens_once = opened.opens;
      known = opened.text;
      unchanged = opened.unchanged;
      counts_unopened = opened.counts_failure;
      reads = (
        e.reads_at_most,
        record {
          ok = e.ok;
          refused = e.refused;
          cut_off = e.cut_off;
          write = e.write;
          refusal = e.refusal;
          reads = e.counts_read_failure;
          writes = e.counts_write_failure;
        },
      );
    }
