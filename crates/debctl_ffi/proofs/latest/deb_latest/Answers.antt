use Rattle.std.proofs.Common.{inl, inr, refl}
use Rattle.deb_latest.specs.Requests.{asked_of}
use Rattle.debctl_ffi.proofs.latest.deb_latest.Goals as goal

pub returns-in-Err-latest_of-clause-answers : goal.returns-in-Err-latest_of-clause-answers
returns-in-Err-latest_of-clause-answers c = inr (
  record { kept = refl; none = refl },
  inr (inl (record { asked = asked_of c.in-Ok.request; is_asked = c.in-Ok.ensures.ok; stops = c.in-Err-latest_of.ensures.fails })),
)
