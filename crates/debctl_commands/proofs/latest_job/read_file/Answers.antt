use Rattle.std.proofs.Common.{Ok, Err, refl, ◌∙◌}
use Rattle.debctl_commands.proofs.latest_job.read_file.Goals as goal

pub returns-in-Ok : goal.returns-in-Ok
returns-in-Ok g c =
    let opened = c.in-Ok.ensures in
    let read = c.read.ensures in
    record {
      reads = record {
        opened = Ok c.in-Ok.reader;
        rest = Ok c.read.new.reader;
        opens_once = opened.opens;
        known = opened.text;
        unchanged = opened.unchanged;
        counts_unopened = opened.counts_failure;
        reads = (read.reads_at_most, read.counts_read_failure);
      };
      adds = record {
        ok = λ asked before text has known. read.ok asked before text has (opened.text ∙ known);
        refused = λ text known. read.refused text (opened.text ∙ known);
        kind = read.kind;
        fault = read.fault;
      };
    }

pub returns-in-Err : goal.returns-in-Err
returns-in-Err g c =
    let opened = c.in-Err.ensures in
    record {
      reads = record {
        opened = Err c.in-Err.field-0;
        rest = Err c.in-Err.field-0;
        opens_once = opened.opens;
        known = tt;
        unchanged = opened.unchanged;
        counts_unopened = opened.counts_failure;
        reads = (refl, refl);
      };
      adds = record { ok = λ asked before text has known. tt; refused = λ text known. tt; kind = tt; fault = tt };
    }
