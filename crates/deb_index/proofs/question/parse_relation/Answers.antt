use Rattle.std.proofs.Common.{refl}
use Rattle.deb_index.proofs.question.parse_relation.Goals as goal

pub returns-in-Err-Bad : goal.returns-in-Err-Bad
returns-in-Err-Bad c =
    rw c.refusal.ensures
    record {
      none = λ relation spelled. rw c.in-Err-Bad.field-0-is at (c.in-Err-Bad.ensures.accepted relation spelled);
      is = refl;
    }
