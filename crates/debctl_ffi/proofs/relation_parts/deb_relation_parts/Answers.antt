use Rattle.std.proofs.Common.{inl, inr, refl}
use Rattle.debctl_ffi.proofs.relation_parts.deb_relation_parts.Goals as goal

pub returns-in-Err-Bad-clause-answers : goal.returns-in-Err-Bad-clause-answers
returns-in-Err-Bad-clause-answers c =
    inr (
      record { kept = refl; none = refl },
      inl (c.refused.ensures, λ relation spelled. rw c.in-Err-Bad.field-0-is at (c.in-Err-Bad.ensures.accepted relation spelled)),
    )
