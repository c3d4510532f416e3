use Rattle.std.proofs.Common.{inl, inr, refl}
use Rattle.debctl_commands.proofs.select_accepted_job.report_accepted.Goals as goal

pub returns-in-Ok : goal.returns-in-Ok
returns-in-Ok g c = let has = c.in-Ok.ensures.ok in inr (has.asked, has.asks, c.report_total.ensures has.asked has.is)

pub returns-in-Err : goal.returns-in-Err
returns-in-Err g c = inl (record { fault = c.in-Err.fault; tells = c.in-Err.ensures.bad; reports = c.report_conditions.ensures; unopened = refl; unwritten = refl })
