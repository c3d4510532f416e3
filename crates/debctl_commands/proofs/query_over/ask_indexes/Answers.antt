use Rattle.std.proofs.Common.{inr}
use Rattle.debctl_commands.proofs.query_over.ask_indexes.Goals as goal

pub returns-in-Ok : goal.returns-in-Ok
returns-in-Ok g c = inr (record {
  index = c.in-Ok.index;
  read = rw (c.index_members.ensures, c.deref.ensures.value) at c.in-Ok.ensures.answers;
  reported = c.report_files.result;
  is = c.at_role.ensures;
  reports = rw c.options_over.ensures at c.report_files.ensures;
})
