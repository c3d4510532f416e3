use Rattle.std.proofs.Common.{ap, Err, inl, inr, refl}
use Rattle.debctl_commands.proofs.query_over.query_file.Goals as goal

pub returns-in-Ok : goal.returns-in-Ok
returns-in-Ok g c = inr (record {
  relation = c.in-Ok.relation;
  between = c.open_relation.new.files;
  reads = c.in-Ok.ensures.reads;
  is_read = c.in-Ok.ensures.ok;
  queries = rw c.as_slice.ensures.value at c.query_indexes.ensures;
})

pub returns-in-Err : goal.returns-in-Err
returns-in-Err g c = inl (record {
  fault = c.in-Err.fault;
  is = ap Err c.unnamed.ensures;
  reads = c.in-Err.ensures.reads;
  fault_is = c.in-Err.ensures.fault;
  unwritten = refl;
})
