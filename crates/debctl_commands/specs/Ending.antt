-- How a job over files that it opens by their paths ends: its answer, which is reported, and what
-- each status says. The statuses are this project's own.
use Rattle.std.specs.Prelude.{◌≡◌, ℕ, List, [], length, Some, Result, Ok, Err, codes, refl}
use Rattle.std.specs.Fmt.{digits}
use Rattle.std.specs.Io.KnownBytes.{Appends}
use Rattle.deb_base.specs.declared.code.Code.TheVariants.{BadNumber}
use Rattle.deb_base.specs.declared.fault.Fault.TheVariants.{Refused}
use Rattle.deb_base.specs.declared.refusal.Refusal.{Refusal}
use Rattle.debctl_commands.specs.FileFaults.{fault_at, fault_told, role_line}
use Rattle.debctl_commands.specs.JobDevices.{WriterOfJob, writer_of}
use Rattle.debctl_commands.specs.Reporting.{Report, ReportsBy, by_status}
use Rattle.debctl_commands.specs.declared.file_fault.FileFault.{FileFault}
use Rattle.debctl_commands.specs.declared.file_fault.Role.TheVariants.{Old}

-- `Says` is what an answer of the job says.

-- There is an answer, and it is reported.
abbrev pub EndsBy : {T E : Type 0} → (T → Report) → (Result T FileFault → Type 0) → WriterOfJob E
    → ℕ → Type 0
EndsBy {T} report Says err status =
    (answer : Result T FileFault) × Says answer
    × ReportsBy report fault_told role_line err.held err.failures err.old err.new answer status

-- A status below 2: there is an answer that is reported by that status alone, and nothing was
-- written on `err`.
abbrev pub SaysBy : {T E : Type 0} → (T → Report) → (Result T FileFault → Type 0) → WriterOfJob E
    → ℕ → Type 0
SaysBy {T} report Says err status =
    (err.new ≡ err.old) × ((value : T) × (report value ≡ by_status status) × Says (Ok value))

-- Status 2: a file or an argument is refused, and exactly the refusal's line was written on `err`.
abbrev pub RefusesWith : {T E : Type 0} → (Result T FileFault → Type 0) → WriterOfJob E → Type 0
RefusesWith Says err =
    (told : FileFault) × (refusal : Refusal) × (told.fault ≡ Refused refusal)
    × Appends (err.held err.old) (err.held err.new) (role_line told) × Says (Err told)

-- for the worked cases: what is said of the answer 7, and of a refusal of an old index
abbrev says_seven : Result ℕ FileFault → Type 0
says_seven answer = answer ≡ Ok 7

abbrev says_refused : Result ℕ FileFault → Type 0
says_refused answer = answer ≡ Err (fault_at Old (Refused (record { code = BadNumber; line = 4 })))

answers_of_statuses : EndsBy by_status says_seven (writer_of Some length [] []) 7
    × SaysBy by_status says_seven (writer_of Some length [] []) 7
answers_of_statuses = ((Ok 7, refl, (refl, refl)), (refl, (7, refl, refl)))

refusals_of_status : (err : WriterOfJob (List ℕ))
    → Appends (err.held err.old) (err.held err.new) (codes "old: line 4: 15 BadNumber\n")
    → RefusesWith says_refused err
unfolding digits
refusals_of_status err appends = (
  fault_at Old (Refused (record { code = BadNumber; line = 4 })),
  record { code = BadNumber; line = 4 },
  refl,
  appends,
  refl,
)
