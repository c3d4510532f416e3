use Rattle.deb_control.proofs.Common.{refl}
use Rattle.deb_control.proofs.FaultsOfValues.{told-fault}
use Rattle.deb_control.proofs.paragraph_check.visit_as_kind.Goals as goal

pub returns-in-Err-clause-fault : goal.returns-in-Err-clause-fault
returns-in-Err-clause-fault g c = c.fault_at.ensures _ (told-fault c.args.kind c.args.field.now.body.now c.in-Err.fault _ refl c.in-Err.ensures.refused)
