use Rattle.std.proofs.Common.{inr, refl}
use Rattle.debctl_ffi.proofs.options.unmet_with.Goals as goal

pub returns-in-Err-clause-answers : goal.returns-in-Err-clause-answers
returns-in-Err-clause-answers c = inr (record { kept = refl; none = refl }, c.in-Err.ensures.fails)
