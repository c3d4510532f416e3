use Rattle.std.proofs.Common.{Ok}
use Rattle.debctl_commands.proofs.opening.run_call.Goals as goal

-- what was opened is what the job is done over
pub returns-in-Ok-clause-reports_answer : goal.returns-in-Ok-clause-reports_answer
returns-in-Ok-clause-reports_answer g c =
    (Ok c.in-Ok.both, c.in-Ok.ensures.opened, (record { first = c.run.new.first; second = c.run.new.second }, c.run.ensures.reads_at_most, c.run.ensures.second_reads_at_most, c.run.ensures.reports_answer))

-- the texts of the readers are those of the paths
pub returns-in-Ok-clause-done : goal.returns-in-Ok-clause-done
returns-in-Ok-clause-done g c = rw (c.in-Ok.ensures.texts.0, c.in-Ok.ensures.texts.1) at c.run.ensures.done

pub returns-in-Ok-clause-no : goal.returns-in-Ok-clause-no
returns-in-Ok-clause-no g c = rw (c.in-Ok.ensures.texts.0, c.in-Ok.ensures.texts.1) at c.run.ensures.no

pub returns-in-Ok-clause-refused : goal.returns-in-Ok-clause-refused
returns-in-Ok-clause-refused g c = rw (c.in-Ok.ensures.texts.0, c.in-Ok.ensures.texts.1) at c.run.ensures.refused
