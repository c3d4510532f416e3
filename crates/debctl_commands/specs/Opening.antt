-- Which files a call opens, in which order, and what becomes of them. The order, and the path of
-- standard input, are this project's own.
use Rattle.std.proofs.Common.{inl}
use Rattle.std.specs.Prelude.{◌≡◌, ◌⊎◌, ℕ, List, [], ◌∷◌, ◌++◌, Option, Some, None, Result}
use Rattle.std.specs.Prelude.{Ok, Err, string_bytes, codes, option_map, unwrap_or}
use Rattle.std.specs.Prelude.{refl}
use Rattle.deb_base.specs.declared.fault.Fault.TheVariants.{Read}
use Rattle.debctl_commands.specs.JobDevices.{ReaderOfJob, WriterOfJob, reader_of}
use Rattle.debctl_commands.specs.Running.{Reported}
use Rattle.debctl_commands.specs.Reporting.{ReportsFault}
use Rattle.debctl_commands.specs.Taking.{TakesFile}
use Rattle.debctl_commands.specs.declared.file_or_nothing.FileOrNothing.{FileOrNothing}
use Rattle.debctl_commands.specs.declared.file_or_nothing.FileOrNothing.TheVariants.{File, Nothing}
use Rattle.debctl_commands.specs.declared.opening.Both.{Both}
use Rattle.debctl_commands.specs.declared.unopened.Unopened.{Unopened}
use Rattle.debctl_commands.specs.declared.unopened.Unopened.TheVariants.{NotFound}
use Rattle.debctl_args.specs.Requests.{reads_of}
use Rattle.debctl_args.specs.declared.jobs.Call.{Call}
use Rattle.debctl_args.specs.declared.jobs.Job.{Job}
use Rattle.debctl_args.specs.declared.jobs.Reads.{Reads}
use Rattle.debctl_args.specs.declared.jobs.Reads.TheVariants as reads

-- ---- paths

-- the path that standard input is opened by
abbrev pub standard_input : List ℕ
standard_input = codes "-"

-- the path of the first file that a job reads, by the path that it was given: one on a single file
-- reads standard input without one
abbrev pub first_by : Reads → Option (List ℕ) → Option (List ℕ)
first_by reads.OneFile path = Some (unwrap_or path standard_input)
first_by reads.Paths path = path
first_by reads.Nothing path = None

abbrev pub first_of_job : Job → Option (List ℕ) → Option (List ℕ)
first_of_job job path = first_by (reads_of job) path

-- the path of the first file of a call, and that of the second one, where it has one
abbrev pub first_path : Call → Option (List ℕ)
first_path call = first_of_job call.job (option_map string_bytes call.first)

abbrev pub second_path : Call → Option (List ℕ)
second_path call = option_map string_bytes call.second

-- ---- readers

-- the bytes that a file has left, where they are known; without a file there is none
abbrev pub left_of : {R : Type 0} → (R → Option (List ℕ)) → FileOrNothing R → Option (List ℕ)
left_of left (File reader) = left reader
left_of left Nothing = Some []

-- how many calls of it have failed
abbrev pub failures_of : {R : Type 0} → (R → ℕ) → FileOrNothing R → ℕ
failures_of failures (File reader) = failures reader
failures_of failures Nothing = 0

-- the text of the file of a path, where there is one
abbrev pub text_at : (List ℕ → Option (List ℕ)) → Option (List ℕ) → Option (List ℕ)
text_at text (Some path) = text path
text_at text None = Some []

-- ---- openings

-- A path was opened once, and that gave this; without a path nothing was opened. (`opens` says what
-- opening a path gives, and to what it brings the files.)
abbrev pub OpensPath : {F R : Type 0} → (F → List ℕ → Result R Unopened → F → Type 0)
    → Option (List ℕ) → F → Result (FileOrNothing R) Unopened → F → Type 0
OpensPath opens (Some path) files (Ok (File reader)) after = opens files path (Ok reader) after
OpensPath opens (Some path) files (Ok Nothing) after = ⊥
OpensPath opens (Some path) files (Err why) after = opens files path (Err why) after
OpensPath opens None files (Ok (File reader)) after = ⊥
OpensPath opens None files (Ok Nothing) after = after ≡ files
OpensPath opens None files (Err why) after = ⊥

-- The path of a first file was opened, and then that of a second one, each once; or one of them
-- couldn't be opened, and no path after it was.
abbrev pub OpensBoth : {F R : Type 0} → (F → List ℕ → Result R Unopened → F → Type 0)
    → Option (List ℕ) → Option (List ℕ) → F → Result (Both R) Unopened → F → Type 0
OpensBoth {F} opens first second files (Ok both) after =
    (between : F) × OpensPath opens first files (Ok both.first) between
    × OpensPath opens second between (Ok both.second) after
OpensBoth {F} {R} opens first second files (Err why) after =
    OpensPath opens first files (Err why) after
    ⊎ ((between : F) × (reader : FileOrNothing R)
    × OpensPath opens first files (Ok reader) between
    × OpensPath opens second between (Err why) after)

-- ---- the job

-- the reader of a file of a job, before and after it
abbrev pub file_of_job : {R : Type 0} → (R → Option (List ℕ)) → (R → ℕ) → FileOrNothing R
    → FileOrNothing R → ReaderOfJob
file_of_job left failures old new =
    reader_of (left_of left old) (failures_of failures old) (failures_of failures new)

-- A job is done over the files that were opened, the first one as its first and the second one as
-- its second; of each it takes no more than a file may have, and one piece; and its answer is
-- reported. If one couldn't be opened, nothing is written on `out`, and the fault of a failed read
-- is reported.
abbrev pub EndsCall : {R W E : Type 0} → (R → Option (List ℕ)) → (R → ℕ) → Job
    → Result (Both R) Unopened → WriterOfJob W → WriterOfJob E → ℕ → Type 0
EndsCall {R} left failures job (Ok both) out err status =
    (after : Both R) × TakesFile (left_of left both.first) (left_of left after.first)
    × TakesFile (left_of left both.second) (left_of left after.second)
    × Reported job (file_of_job left failures both.first after.first)
    (file_of_job left failures both.second after.second) out err status
EndsCall left failures job (Err why) out err status =
    (out.new ≡ out.old) × ReportsFault err.held err.failures err.old err.new Read status

-- ---- worked cases

-- where there is no file, there is nothing to read and nothing fails
texts_of_files : (left_of {R = List ℕ} Some (File (codes "a")) ≡ Some (codes "a"))
    × (left_of {R = List ℕ} Some Nothing ≡ Some [])
    × (text_at Some (Some (codes "a")) ≡ Some (codes "a")) × (text_at Some None ≡ Some [])
texts_of_files = (refl, refl, refl, refl)

failures_of_files : (failures_of {R = ℕ} (λ n. n) (File 3) ≡ 3)
    × (failures_of {R = ℕ} (λ n. n) Nothing ≡ 0)
    × (file_of_job {R = ℕ} (λ n. None) (λ n. n) (File 1) (File 2)
    ≡ record { text = None; failures = 1; failures_after = 2 })
failures_of_files = (refl, refl, refl)

-- files that list the paths that were opened, and whose bytes are their path
abbrev listed : List (List ℕ) → List ℕ → Result (List ℕ) Unopened → List (List ℕ) → Type 0
listed paths path (Ok reader) after = (reader ≡ path) × (after ≡ paths ++ path ∷ [])
listed paths path (Err why) after = after ≡ paths ++ path ∷ []

-- the first path is opened first, and read as the first file
opens_in_order : OpensBoth listed (Some (codes "a")) (Some (codes "b")) []
    (Ok (record { first = File (codes "a"); second = File (codes "b") }))
    (codes "a" ∷ codes "b" ∷ [])
opens_in_order = (codes "a" ∷ [], (refl, refl), (refl, refl))

-- after one that can't be opened none is
stops_at_first : OpensBoth listed (Some (codes "a")) (Some (codes "b")) [] (Err NotFound)
    (codes "a" ∷ [])
stops_at_first = inl refl
