use Rattle.std.proofs.Common.{inr}
use Rattle.debctl_commands.proofs.UnmetAnswers.{old_lent}
use Rattle.debctl_commands.proofs.unmet_job.ask_after_old.Goals as goal

pub returns-in-Ok : goal.returns-in-Ok
returns-in-Ok g c = inr (record {
  old = c.in-Ok.old;
  between = c.read_old.new.files;
  reads = c.in-Ok.ensures;
  asks = rw (old_lent c.as_ref.result c.in-Ok.old c.as_ref.ensures.value) at c.ask_groups.ensures;
})
