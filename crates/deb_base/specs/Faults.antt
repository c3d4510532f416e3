-- Facts about a fault, case by case.
use Rattle.deb_base.specs.declared.fault.Fault.{Fault}
use Rattle.deb_base.specs.declared.fault.Fault.TheVariants.{Refused, Memory, Read, Write}
use Rattle.deb_base.specs.declared.refusal.Refusal.{Refusal}

-- what holds of a refusal, and what where memory was wanted, where a read failed and where a write
-- did
abbrev pub MatchFault : Fault → (Refusal → Type 0) → Type 0 → Type 0 → Type 0 → Type 0
MatchFault (Refused refusal) refused memory read write = refused refusal
MatchFault Memory refused memory read write = memory
MatchFault Read refused memory read write = read
MatchFault Write refused memory read write = write

-- a fact about a refusal alone
abbrev pub IfRefused : Fault → (Refusal → Type 0) → Type 0
IfRefused fault refused = MatchFault fault refused (Unit {0}) (Unit {0}) (Unit {0})

-- a refusal with this fact, or out of memory: nothing was read or written
abbrev pub RefusedOrMemory : Fault → (Refusal → Type 0) → Type 0
RefusedOrMemory fault refused = MatchFault fault refused (Unit {0}) ⊥ ⊥

-- a refusal with this fact, out of memory or a failed read: nothing was written
abbrev pub IsReadersFault : Fault → (Refusal → Type 0) → Type 0
IsReadersFault fault refused = MatchFault fault refused (Unit {0}) (Unit {0}) ⊥

-- What each statement says of the faults: of a refusal its fact, and of others whether they are
-- there.
facts_of_refusals : (refusal : Refusal) (Fact : Refusal → Type 0)
    → (IfRefused (Refused refusal) Fact → Fact refusal)
    × (RefusedOrMemory (Refused refusal) Fact → Fact refusal)
    × (IsReadersFault (Refused refusal) Fact → Fact refusal)
facts_of_refusals refusal Fact = (λ fact. fact, λ fact. fact, λ fact. fact)

no_other_faults : (Fact : Refusal → Type 0) → (RefusedOrMemory Read Fact → ⊥)
    × (RefusedOrMemory Write Fact → ⊥) × (IsReadersFault Write Fact → ⊥)
no_other_faults Fact = (λ none. none, λ none. none, λ none. none)

other_faults : (Fact : Refusal → Type 0) → RefusedOrMemory Memory Fact
    × IsReadersFault Memory Fact × IsReadersFault Read Fact
other_faults Fact = (tt, tt, tt)
