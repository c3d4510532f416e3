-- The faults of a value.
use Rattle.std.specs.Prelude.{◌≡◌, Bool, true, false, IsTrue, List, [], ◌∷◌, ℕ, map, Option, Some, Result, Ok, Err, refl}
use Rattle.deb_base.specs.declared.code.Code.{Code}
use Rattle.deb_field.specs.Values.{ValueMeaning, kind_refusal}
use Rattle.deb_field.specs.ValueMeanings.{value_meaning}
use Rattle.deb_base.specs.declared.kind.Kind.{Kind}
use Rattle.deb_base.specs.declared.kind.Kind.TheVariants as kinds
use Rattle.deb_base.specs.declared.kind.Relationship.TheVariants as sorts
use Rattle.deb_field.specs.declared.value.Value.{Value}
use Rattle.deb_field.specs.declared.value.ValueFault.{ValueFault}
use Rattle.deb_field.specs.declared.value.ValueFault.TheVariants.{Refused, Memory}

-- values of relationship fields take memory, and no others do
abbrev pub takes_memory : Kind → Bool
takes_memory kinds.Name = false
takes_memory kinds.Source = false
takes_memory kinds.Version = false
takes_memory kinds.Architecture = false
takes_memory kinds.ArchitectureWords = false
takes_memory kinds.Flag = false
takes_memory kinds.MultiArch = false
takes_memory kinds.Number = false
takes_memory kinds.Line = false
takes_memory kinds.Folded = false
takes_memory (kinds.Relation sort) = true
takes_memory kinds.Text = false

-- The fault is this refusal, or out of memory.
abbrev pub IsFaultOrMemory : Option Code → ValueFault → Type 0
IsFaultOrMemory refusal (Refused code) = refusal ≡ Some code
IsFaultOrMemory refusal Memory = Unit {0}

-- The fault is the refusal of the body, or out of memory if the kind takes some.
abbrev pub IsFaultOf : Kind → List ℕ → ValueFault → Type 0
IsFaultOf kind body (Refused code) = kind_refusal kind body ≡ Some code
IsFaultOf kind body Memory = IsTrue (takes_memory kind)

-- A value of this meaning is read; or memory is wanting, where the kind takes some.
abbrev pub IsRead : Kind → Result Value ValueFault → ValueMeaning → Type 0
IsRead kind (Ok v) m = value_meaning v ≡ m
IsRead kind (Err (Refused code)) m = ⊥
IsRead kind (Err Memory) m = IsTrue (takes_memory kind)

relations_take_memory : map takes_memory
    (kinds.Relation sorts.Depends ∷ kinds.Relation sorts.Conflicts
    ∷ kinds.Relation sorts.Provides ∷ [])
    ≡ true ∷ true ∷ true ∷ []
relations_take_memory = refl

others_take_none : map takes_memory
    (kinds.Name ∷ kinds.Source ∷ kinds.Version ∷ kinds.Architecture ∷ kinds.ArchitectureWords
    ∷ kinds.Flag ∷ kinds.MultiArch ∷ kinds.Number ∷ kinds.Line ∷ kinds.Folded ∷ kinds.Text ∷ [])
    ≡ false ∷ false ∷ false ∷ false ∷ false ∷ false ∷ false ∷ false ∷ false ∷ false ∷ false ∷ []
others_take_none = refl

-- what a fault says: only relations run out of memory, a code is that of the body, and if a body
-- spells a value no code is returned
memory_for_relations : (kind : Kind) (body : List ℕ) (m : ValueMeaning)
    → (IsFaultOf kind body Memory → IsTrue (takes_memory kind))
    × (IsRead kind (Err Memory) m → IsTrue (takes_memory kind))
memory_for_relations kind body m = (λ is. is, λ is. is)

codes_of_bodies : (kind : Kind) (body : List ℕ) (code : Code) (refusal : Option Code)
    → (IsFaultOf kind body (Refused code) → kind_refusal kind body ≡ Some code)
    × (IsFaultOrMemory refusal (Refused code) → refusal ≡ Some code)
codes_of_bodies kind body code refusal = (λ is. is, λ is. is)

no_code_of_values : (kind : Kind) (code : Code) (m : ValueMeaning)
    → IsRead kind (Err (Refused code)) m → ⊥
no_code_of_values kind code m none = none
