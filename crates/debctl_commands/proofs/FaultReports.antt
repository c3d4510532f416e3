-- The status of a failed write.
use Rattle.std.proofs.Common.{◌≡◌, ℕ, inl, inr, List, Option, ap, ◌∙◌}
use Rattle.deb_base.specs.declared.fault.Fault.{Fault}
use Rattle.deb_base.specs.declared.fault.Fault.TheVariants.{Write}
use Rattle.debctl_commands.specs.Reporting.{status_of, ReportsFault}

-- a failed write has status 3
pub write_is_three : {E : Type 0} (held : E → Option (List ℕ)) (failures : E → ℕ) (err err_after : E) (status : ℕ) (fault : Fault)
    → fault ≡ Write → ReportsFault held failures err err_after fault status → status ≡ 3
write_is_three held failures err err_after status fault is (inr front) = front.status
write_is_three held failures err err_after status fault is (inl whole) = whole.status ∙ ap status_of is
