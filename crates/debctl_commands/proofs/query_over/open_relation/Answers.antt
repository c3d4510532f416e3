use Rattle.std.proofs.Common.{Ok, Err, refl}
use Rattle.debctl_commands.proofs.query_over.open_relation.Goals as goal

pub returns-in-Ok-clause-reads : goal.returns-in-Ok-clause-reads
returns-in-Ok-clause-reads g c =
    let opened = c.in-Ok.ensures in
    record {
      opened = Ok c.in-Ok.reader;
      rest = Ok c.read_relation.new.first;
      opens_once = opened.opens;
      known = opened.text;
      unchanged = opened.unchanged;
      counts_unopened = opened.counts_failure;
      reads = (c.read_relation.ensures.reads_at_most, c.read_relation.ensures.counts_failure);
    }

pub returns-in-Ok-clause-ok : goal.returns-in-Ok-clause-ok
returns-in-Ok-clause-ok g c = rw c.in-Ok.ensures.text at c.read_relation.ensures.ok

pub returns-in-Ok-clause-fault : goal.returns-in-Ok-clause-fault
returns-in-Ok-clause-fault g c = rw c.in-Ok.ensures.text at c.read_relation.ensures.fault

pub returns-in-Err-clause-reads : goal.returns-in-Err-clause-reads
returns-in-Err-clause-reads g c =
    let opened = c.in-Err.ensures in
    record {
      opened = Err c.in-Err.field-0;
      rest = Err c.in-Err.field-0;
      opens_once = opened.opens;
      known = tt;
      unchanged = opened.unchanged;
      counts_unopened = opened.counts_failure;
      reads = (refl, refl);
    }
