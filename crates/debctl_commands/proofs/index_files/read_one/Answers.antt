use Rattle.std.proofs.Common.{Ok, Err, refl, ◌∙◌}
use Rattle.debctl_commands.proofs.index_files.read_one.Goals as goal

pub returns-in-Ok : goal.returns-in-Ok
returns-in-Ok g c =
    let opened = c.in-Ok.ensures in
    let read = c.read_more_members.ensures in
    record {
      reads = record {
        opened = Ok c.in-Ok.reader;
        rest = Ok c.read_more_members.new.reader;
        opens_once = opened.opens;
        known = opened.text;
        unchanged = opened.unchanged;
        counts_unopened = opened.counts_failure;
        reads = (read.reads_at_most, read.counts_read_failure);
      };
      adds = record {
        lists = λ text known. read.ok text (opened.text ∙ known);
        spells = λ text known. read.spellings text (opened.text ∙ known);
        counts = read.counts;
        refused = λ text known. read.refused text (opened.text ∙ known);
        fault = read.fault;
      };
    }

pub returns-in-Err : goal.returns-in-Err
returns-in-Err g c =
    let opened = c.in-Err.ensures in
    record {
      reads = record {
        opened = Err c.in-Err.field-0;
        rest = Err c.in-Err.field-0;
        opens_once = opened.opens;
        known = tt;
        unchanged = opened.unchanged;
        counts_unopened = opened.counts_failure;
        reads = (refl, refl);
      };
      adds = record { lists = λ text known. tt; spells = λ text known. tt; counts = tt; refused = λ text known. tt; fault = tt };
    }
