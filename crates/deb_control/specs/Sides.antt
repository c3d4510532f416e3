-- Faults of a call that reads two files, each with the side of its file (this project's own).
use Rattle.std.specs.Prelude.{◌≡◌, ℕ, ⊤, Result, Ok, Err, refl}
use Rattle.deb_base.specs.declared.fault.Fault.{Fault}
use Rattle.deb_control.specs.declared.side.Side.{Side}
use Rattle.deb_control.specs.declared.side.Side.TheVariants.{First, Second}
use Rattle.deb_control.specs.declared.side.SideFault.{SideFault}
use Rattle.deb_base.specs.declared.fault.Fault.TheVariants.{Read}

abbrev pub if_first : Side → Fault → Result ⊤ Fault
if_first First fault = Err fault
if_first Second fault = Ok tt

abbrev pub if_second : Side → Fault → Result ⊤ Fault
if_second First fault = Ok tt
if_second Second fault = Err fault

-- what an answer says of the first file, and of the second: its fault, or none
abbrev pub of_first : {T : Type 0} → Result T SideFault → Result ⊤ Fault
of_first (Ok _) = Ok tt
of_first (Err told) = if_first told.side told.fault

abbrev pub of_second : {T : Type 0} → Result T SideFault → Result ⊤ Fault
of_second (Ok _) = Ok tt
of_second (Err told) = if_second told.side told.fault

faults_of_sides : (if_first First Read ≡ Err Read) × (if_first Second Read ≡ Ok tt)
    × (if_second First Read ≡ Ok tt) × (if_second Second Read ≡ Err Read)
faults_of_sides = (refl, refl, refl, refl)

answers_of_sides : (of_first {T = ℕ} (Ok 1) ≡ Ok tt)
    × (of_first {T = ℕ} (Err (record { side = First; fault = Read })) ≡ Err Read)
    × (of_first {T = ℕ} (Err (record { side = Second; fault = Read })) ≡ Ok tt)
    × (of_second {T = ℕ} (Ok 1) ≡ Ok tt)
    × (of_second {T = ℕ} (Err (record { side = First; fault = Read })) ≡ Ok tt)
    × (of_second {T = ℕ} (Err (record { side = Second; fault = Read })) ≡ Err Read)
answers_of_sides = (refl, refl, refl, refl, refl, refl)
