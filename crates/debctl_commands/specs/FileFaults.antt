-- A fault of one of the files that a job opens by their paths, and its line. Which file a line
-- names, and how, is this project's own.
use Rattle.std.specs.Prelude.{◌≡◌, ◌⊎◌, ℕ, nat_eq, cond, List, [], ◌∷◌, ◌++◌, map, Option, Result, Ok, Err, codes, refl}
use Rattle.std.specs.Fmt.{decimal, digits}
use Rattle.std.specs.List.{concat}
use Rattle.deb_base.specs.Lines.{fault_line}
use Rattle.deb_base.specs.declared.code.Code.TheVariants.{BadNumber}
use Rattle.deb_base.specs.declared.fault.Fault.{Fault}
use Rattle.deb_base.specs.declared.fault.Fault.TheVariants.{Refused, Memory, Read, Write}
use Rattle.debctl_commands.specs.Reporting.{ReportsFront, ReportsWhole, status_of}
use Rattle.debctl_commands.specs.declared.file_fault.FileFault.{FileFault}
use Rattle.debctl_commands.specs.declared.file_fault.Role.{Role}
use Rattle.debctl_commands.specs.declared.file_fault.Role.TheVariants.{First, Numbered, Old, Second, Unnamed}

-- the text before the line of a file's refusal
abbrev pub role_words : Role → List ℕ
role_words Unnamed = []
role_words Old = codes "old: "
role_words First = codes "first: "
role_words Second = codes "second: "
role_words (Numbered place) = concat (codes "index " ∷ decimal place ∷ codes ": " ∷ [])

-- the text before the line of a fault: one that is no refusal is reported without its file
abbrev pub role_before : Role → Fault → List ℕ
role_before role (Refused _) = role_words role
role_before role Memory = []
role_before role Read = []
role_before role Write = []

-- the line of a fault with its file
abbrev pub role_line : FileFault → List ℕ
role_line told = role_before told.role told.fault ++ fault_line told.fault

-- a fault of a file, and one that is of none
abbrev pub fault_at : Role → Fault → FileFault
fault_at role fault = record { role = role; fault = fault }

abbrev pub fault_told : FileFault → Fault
fault_told told = told.fault

-- an answer whose fault is of such a file
abbrev pub at_role : {T : Type 0} → Role → Result T Fault → Result T FileFault
at_role role (Ok answer) = Ok answer
at_role role (Err fault) = Err (fault_at role fault)

-- a file's role, by its place among so many files: one that is alone has this one
abbrev pub role_among : Role → ℕ → ℕ → Role
role_among alone count place = cond (nat_eq count 1) alone (Numbered place)

-- A fault is reported by its line, and by its status unless a write of the line fails.
abbrev pub ReportsRole : {E : Type 0} → (E → Option (List ℕ)) → (E → ℕ) → E → E → FileFault → ℕ
    → Type 0
ReportsRole held failures old new told status =
    ReportsWhole held failures old new (role_line told) (status_of told.fault) status
    ⊎ ReportsFront held failures old new (role_line told) status

-- for the worked cases: the line of a refusal in line 4
abbrev refused : Role → List ℕ
refused role = role_line (fault_at role (Refused (record { code = BadNumber; line = 4 })))

lines_of_refusals : map refused (Unnamed ∷ Old ∷ First ∷ Second ∷ Numbered 1 ∷ Numbered 12 ∷ [])
    ≡ codes "line 4: 15 BadNumber\n" ∷ codes "old: line 4: 15 BadNumber\n"
    ∷ codes "first: line 4: 15 BadNumber\n" ∷ codes "second: line 4: 15 BadNumber\n"
    ∷ codes "index 1: line 4: 15 BadNumber\n" ∷ codes "index 12: line 4: 15 BadNumber\n" ∷ []
unfolding digits
lines_of_refusals = refl

-- other faults have no file
lines_of_faults : map (λ fault. role_line (fault_at (Numbered 2) fault))
    (Memory ∷ Read ∷ Write ∷ [])
    ≡ codes "fault: memory\n" ∷ codes "fault: read\n" ∷ codes "fault: write\n" ∷ []
lines_of_faults = refl

faults_told : (fault_told (fault_at Old Read) ≡ Read) × ((fault_at Old Read).role ≡ Old)
faults_told = (refl, refl)

-- the only file, one of two, and one of none
roles_of_files : (role_among First 1 1 ≡ First) × (role_among First 2 1 ≡ Numbered 1)
    × (role_among Unnamed 1 1 ≡ Unnamed) × (role_among Unnamed 12 11 ≡ Numbered 11)
    × (role_among First 0 1 ≡ Numbered 1)
roles_of_files = (refl, refl, refl, refl, refl)

answers_of_files : (at_role {T = ℕ} Second (Ok 7) ≡ Ok 7)
    × (at_role {T = ℕ} Second (Err Read) ≡ Err (fault_at Second Read))
answers_of_files = (refl, refl)
