use Rattle.std.proofs.Common.{refl}
use Rattle.debctl_ffi.proofs.relations.parse_relation.Goals as goal

pub returns-in-Err-Bad : goal.returns-in-Err-Bad
returns-in-Err-Bad c = record {
  none = λ relation spelled. rw c.in-Err-Bad.field-0-is at (c.in-Err-Bad.ensures.accepted relation spelled);
  is = refl;
}
