-- Where a reader of refusals is (this project's own).
use Rattle.std.specs.Prelude.{◌≡◌, Bool, true, false, not, is_some, Option, None, Some, Result, Ok, Err, refl, [], ◌∷◌, map}
use Rattle.deb_base.specs.declared.fault.Fault.{Fault}
use Rattle.deb_base.specs.declared.fault.Fault.TheVariants.{Refused, Memory, Read, Write}
use Rattle.deb_base.specs.declared.refusal.Refusal.{Refusal}
use Rattle.deb_control.specs.declared.refusals.Position.{Position}
use Rattle.deb_control.specs.declared.refusals.Position.TheVariants.{Start, At, End, Failed}
use Rattle.deb_base.specs.declared.code.Code.TheVariants.{MissingField}

-- the refusal that was given last
abbrev pub refusal_at : Position → Option Refusal
refusal_at Start = None
refusal_at (At refusal) = Some refusal
refusal_at End = None
refusal_at (Failed fault) = None

-- the error that was
abbrev pub fault_at : Position → Option Fault
fault_at Start = None
fault_at (At refusal) = None
fault_at End = None
fault_at (Failed fault) = Some fault

-- whether a call has answered that no further refusal follows
abbrev pub is_end : Position → Bool
is_end Start = false
is_end (At refusal) = false
is_end End = true
is_end (Failed fault) = false

-- where an answer leaves a reader
abbrev pub position_after : Result (Option Refusal) Fault → Position
position_after (Ok (Some refusal)) = At refusal
position_after (Ok None) = End
position_after (Err fault) = Failed fault

-- whether a fault is out of memory, or a failed read
abbrev pub is_of_reading : Fault → Bool
is_of_reading (Refused refusal) = false
is_of_reading Memory = true
is_of_reading Read = true
is_of_reading Write = false

-- whether, at the start, there is no error inside, and an error that was given is one of reading
abbrev pub is_sound_at : Position → Option Fault → Bool
is_sound_at Start inside = not (is_some inside)
is_sound_at (At refusal) inside = true
is_sound_at End inside = true
is_sound_at (Failed fault) inside = is_of_reading fault

abbrev missing : Refusal
missing = record { code = MissingField; line = 5 }

positions : (map refusal_at (Start ∷ At missing ∷ End ∷ Failed Read ∷ [])
    ≡ None ∷ Some missing ∷ None ∷ None ∷ [])
    × (map fault_at (Start ∷ At missing ∷ End ∷ Failed Read ∷ [])
    ≡ None ∷ None ∷ None ∷ Some Read ∷ [])
    × (map is_end (Start ∷ At missing ∷ End ∷ Failed Read ∷ [])
    ≡ false ∷ false ∷ true ∷ false ∷ [])
    × (map position_after (Ok (Some missing) ∷ Ok None ∷ Err Read ∷ [])
    ≡ At missing ∷ End ∷ Failed Read ∷ [])
positions = (refl, refl, refl, refl)

sound_positions : (is_sound_at Start None ≡ true) × (is_sound_at Start (Some Memory) ≡ false)
    × (is_sound_at (At missing) (Some Memory) ≡ true) × (is_sound_at End (Some Memory) ≡ true)
    × (map (λ fault. is_sound_at (Failed fault) None) (Memory ∷ Read ∷ Write ∷ Refused missing ∷ [])
    ≡ true ∷ true ∷ false ∷ false ∷ [])
sound_positions = (refl, refl, refl, refl, refl)
