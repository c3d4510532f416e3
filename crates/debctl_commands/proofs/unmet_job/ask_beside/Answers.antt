use Rattle.std.proofs.Common.{ap, Err, inl, inr, refl}
use Rattle.debctl_commands.proofs.unmet_job.ask_beside.Goals as goal

pub returns-in-Ok-leave_out : goal.returns-in-Ok-leave_out
returns-in-Ok-leave_out g c = inr (inr (record {
  index = c.in-Ok.index;
  between = c.read_indexes.new.files;
  read = rw (c.index_members.ensures, c.deref.ensures.value) at c.in-Ok.ensures.answers;
  tried = c.try_path-tried.result;
  is = c.at_role.ensures;
  tries = rw (c.request_of-request.ensures, c.in-Ok-leave_out.ensures) at c.try_path-tried.ensures;
}))

pub returns-in-Err-leave_out : goal.returns-in-Err-leave_out
returns-in-Err-leave_out g c = inr (inl (record {
  index = c.in-Ok.index;
  read = rw (c.index_members.ensures, c.deref.ensures.value) at c.in-Ok.ensures.answers;
  is = ap Err c.unnamed.ensures;
  unwritten = refl;
}))
