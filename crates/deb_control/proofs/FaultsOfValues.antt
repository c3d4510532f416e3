-- Why a body has no value.
use Rattle.deb_control.proofs.Common.{◌≡◌, ℕ, List, Option, sym, ◌∙◌, Code, kind_refusal}
use Rattle.deb_base.specs.declared.kind.Kind.{Kind}
use Rattle.deb_field.specs.Faults.{IsFaultOf, IsFaultOrMemory}
use Rattle.deb_field.specs.declared.value.ValueFault.{ValueFault}
use Rattle.deb_field.specs.declared.value.ValueFault.TheVariants as faults

-- a fault of a body is its refusal
pub told-fault : (kind : Kind) (body : List ℕ) (fault : ValueFault) (refusal : Option Code) → kind_refusal kind body ≡ refusal → IsFaultOf kind body fault → IsFaultOrMemory refusal fault
told-fault kind body (faults.Refused code) refusal is told = sym is ∙ told
told-fault kind body faults.Memory refusal is told = tt
