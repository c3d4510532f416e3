-- How a command ends: its status, and the line of a fault on standard error. Both are this
-- project's own.
use Rattle.std.specs.Prelude.{◌≡◌, ◌⊎◌, ℕ, List, length, Option, Some, Result, Ok, Err, ⊤, IfErr, codes, refl}
use Rattle.std.specs.Io.KnownBytes.{Appends}
use Rattle.std.specs.Fmt.{digits}
use Rattle.deb_base.specs.Devices.{AppendsFront, Puts, one_more, write_failures_after}
use Rattle.deb_base.specs.Lines.{fault_line}
use Rattle.deb_base.specs.declared.code.Code.TheVariants.{NoColon}
use Rattle.deb_base.specs.declared.fault.Fault.{Fault}
use Rattle.deb_base.specs.declared.fault.Fault.TheVariants.{Refused, Memory, Read, Write}

-- the status of a fault: 2 where a text is refused, else 3
abbrev pub status_of : Fault → ℕ
status_of (Refused _) = 2
status_of Memory = 3
status_of Read = 3
status_of Write = 3

-- The line was written whole, and the status is the one that is wanted.
pub record ReportsWhole {E : Type 0} (held : E → Option (List ℕ)) (failures : E → ℕ) (old new : E)
    (line : List ℕ) (wanted ended : ℕ) : Type 0 where
  pub written : Appends (held old) (held new) line
  pub counted : failures new ≡ failures old
  pub status : ended ≡ wanted

-- A write failed: a prefix of the line was written, and the status is that of a fault.
pub record ReportsFront {E : Type 0} (held : E → Option (List ℕ)) (failures : E → ℕ) (old new : E)
    (line : List ℕ) (ended : ℕ) : Type 0 where
  pub written : AppendsFront (held old) (held new) line
  pub counted : failures new ≡ one_more (failures old)
  pub status : ended ≡ 3

-- A fault is reported by its line, and by its status unless a write of the line fails.
abbrev pub ReportsFault : {E : Type 0} → (E → Option (List ℕ)) → (E → ℕ) → E → E → Fault → ℕ
    → Type 0
ReportsFault held failures old new fault status =
    ReportsWhole held failures old new (fault_line fault) (status_of fault) status
    ⊎ ReportsFront held failures old new (fault_line fault) status

-- A write of a line on `out` failed: a prefix of it was written, and that is reported.
pub record ReportsUnwritten {W E : Type 0} (held : W → Option (List ℕ)) (writes : W → ℕ)
    (out new : W) (held_err : E → Option (List ℕ)) (failures_err : E → ℕ) (err err_after : E)
    (line : List ℕ) (status : ℕ) : Type 0 where
  pub written : AppendsFront (held out) (held new) line
  pub counted : writes new ≡ one_more (writes out)
  pub reported : ReportsFault held_err failures_err err err_after Write status

-- the status of an answer that is there, where each is success
abbrev pub done_status : {T : Type 0} → T → ℕ
done_status _ = 0

-- how an answer is reported: by its status alone, or by a line and status 2
pub data Report : Type 0 where
  by_status : ℕ → Report
  by_line : List ℕ → Report

abbrev pub ReportsAs : {E : Type 0} → (E → Option (List ℕ)) → (E → ℕ) → E → E → Report → ℕ
    → Type 0
ReportsAs held failures old new (by_status wanted) status = (status ≡ wanted) × (new ≡ old)
ReportsAs held failures old new (by_line line) status =
    ReportsWhole held failures old new line 2 status
    ⊎ ReportsFront held failures old new line status

-- An answer is reported: one that is there as `report` says, and a failure by its line and by the
-- status of its fault, unless a write of the line fails.
abbrev pub ReportsBy : {T X E : Type 0} → (T → Report) → (X → Fault) → (X → List ℕ)
    → (E → Option (List ℕ)) → (E → ℕ) → E → E → Result T X → ℕ → Type 0
ReportsBy report fault line held failures old new (Ok answer) status =
    ReportsAs held failures old new (report answer) status
ReportsBy report fault line held failures old new (Err failure) status =
    ReportsWhole held failures old new (line failure) (status_of (fault failure)) status
    ⊎ ReportsFront held failures old new (line failure) status

-- The same, where each answer is reported by its status, and a fault by its own line.
abbrev pub Reports : {T E : Type 0} → (T → ℕ) → (E → Option (List ℕ)) → (E → ℕ) → E → E →
    Result T Fault → ℕ → Type 0
Reports {T} wanted held failures old new answer status =
    ReportsBy (λ (answer : T). by_status (wanted answer)) (λ (fault : Fault). fault) fault_line
    held failures old new answer status

-- the fault that is reported after the lines of a path that can't be opened
abbrev pub fault_behind : Result ⊤ Fault → Fault
fault_behind (Ok _) = Read
fault_behind (Err fault) = fault

-- A path that can't be opened is reported: lines on `out`, and on `err` the fault of a failed read,
-- or that of a failed write, before which a prefix of the lines was written. The status is 3.
pub record ReportsUnopened {W E : Type 0} (lines : List ℕ) (held : W → Option (List ℕ))
    (writes : W → ℕ) (out new : W) (held_err : E → Option (List ℕ)) (failures_err : E → ℕ)
    (err err_after : E) (ended : ℕ) : Type 0 where
  pub answer : Result ⊤ Fault
  pub written : Puts (held out) (held new) answer lines
  pub counted : writes new ≡ write_failures_after (writes out) answer
  pub fault : IfErr answer (λ fault. fault ≡ Write)
  pub reported : ReportsFault held_err failures_err err err_after (fault_behind answer) ended
  pub status : ended ≡ 3

status_of_refusal : status_of (Refused (record { code = NoColon; line = 1 })) ≡ 2
status_of_refusal = refl

-- no fault but a refusal has another status than 3, and no success another than 0
statuses_of_faults : (status_of Memory ≡ 3) × (status_of Read ≡ 3) × (status_of Write ≡ 3)
statuses_of_faults = (refl, refl, refl)

status_of_success : (done_status (codes "") ≡ 0) × (done_status (codes "a") ≡ 0)
status_of_success = (refl, refl)

-- after all lines the failed opening is reported, and after some the failed write
faults_behind : (fault_behind (Ok tt) ≡ Read) × (fault_behind (Err Write) ≡ Write)
faults_behind = (refl, refl)

line_of_refusal :
    fault_line (Refused (record { code = NoColon; line = 1 })) ≡ codes "line 1: 6 NoColon\n"
unfolding digits
line_of_refusal = refl

lines_of_faults : (fault_line Memory ≡ codes "fault: memory\n")
    × (fault_line Read ≡ codes "fault: read\n") × (fault_line Write ≡ codes "fault: write\n")
lines_of_faults = (refl, refl, refl)

-- an answer has its own status, and nothing is printed on standard error
answer_told : Reports {T = ℕ} (λ n. n) Some length (codes "a") (codes "a") (Ok 1) 1
answer_told = (refl, refl)
