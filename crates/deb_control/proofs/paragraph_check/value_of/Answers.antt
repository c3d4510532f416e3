use Rattle.deb_control.proofs.Common.{ap, kind_refusal}
use Rattle.deb_control.proofs.FaultsOfValues.{told-fault}
use Rattle.deb_control.proofs.paragraph_check.value_of.Goals as goal

pub returns-in-Err-clause-fault : goal.returns-in-Err-clause-fault
returns-in-Err-clause-fault c =
    c.fault_at.ensures _ (told-fault c.kind_of_field.result c.args.field.now.body.now c.in-Err.fault _ (ap (λ kind. kind_refusal kind c.args.field.now.body.now) c.kind_of_field.ensures) c.in-Err.ensures.refused)
