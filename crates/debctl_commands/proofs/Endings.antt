-- From the answer of a job over opened files, and how it is reported, to what each status says.
use Rattle.std.proofs.Common.{◌≡◌, ◌<◌, ℕ, Result, Ok, Err, inl, inr, arith, refl, sym, ap, ◌∙◌}
use Rattle.deb_base.specs.declared.fault.Fault.{Fault}
use Rattle.deb_base.specs.declared.fault.Fault.TheVariants.{Refused, Memory, Read, Write}
use Rattle.std.specs.Prelude.{Bool, true, false, ⊤}
use Rattle.deb_unmet.specs.declared.asking.Summary.{Summary}
use Rattle.debctl_commands.specs.Ending.{EndsBy, RefusesWith, SaysBy}
use Rattle.debctl_commands.specs.JobDevices.{WriterOfJob}
use Rattle.debctl_commands.specs.Promises.{done, yes_or_no}
use Rattle.debctl_commands.specs.SideAnswers.{unmet_report}
use Rattle.debctl_commands.specs.Reporting.{ReportsAs, Report, by_line, by_status, status_of}
use Rattle.debctl_commands.specs.declared.file_fault.FileFault.{FileFault}

-- the fault of an answer has the status 3
abbrev pub HasStatusThree : {T : Type 0} → Result T FileFault → Type 0
HasStatusThree (Ok value) = ⊥
HasStatusThree (Err told) = status_of told.fault ≡ 3

-- no fault has a status below 2
faults_from_two : (fault : Fault) (status : ℕ) → status ≡ status_of fault → status < 2 → ⊥
faults_from_two (Refused refusal) status is below = omega (arith, is, below)
faults_from_two Memory status is below = omega (arith, is, below)
faults_from_two Read status is below = omega (arith, is, below)
faults_from_two Write status is below = omega (arith, is, below)

module _ {T E : Type 0} (report : T → Report) (low : (value : T) → (n : ℕ) × (report value ≡ by_status n) × (n < 2)) (Says : Result T FileFault → Type 0) (err : WriterOfJob E) (status : ℕ) where
  -- a status below 2 is that of the answer, and nothing was reported
  pub answered : EndsBy report Says err status → status < 2 → SaysBy report Says err status
  answered (Ok value, says, reported) below = go (report value) refl reported
    where
      go : (wanted : Report) → report value ≡ wanted → ReportsAs err.held err.failures err.old err.new wanted status → SaysBy report Says err status
      go (by_status n) so (is, quiet) = (quiet, (value, so ∙ ap by_status (sym is), says))
      go (by_line line) so (inl whole) = absurd (omega (arith, whole.status, below))
      go (by_line line) so (inr front) = absurd (omega (arith, front.status, below))
  answered (Err told, says, inl whole) below = absurd (faults_from_two told.fault status whole.status below)
  answered (Err told, says, inr front) below = absurd (omega (arith, front.status, below))

  pub answered_so : (n : ℕ) → n < 2 → EndsBy report Says err status → status ≡ n → SaysBy report Says err n
  answered_so n below ends is = rw is at (answered ends (omega (arith, is, below)))

  -- status 2 is that of a refusal
  pub refused : EndsBy report Says err status → status ≡ 2 → RefusesWith Says err
  refused (Ok value, says, reported) is = go (report value) refl reported
    where
      go : (wanted : Report) → report value ≡ wanted → ReportsAs err.held err.failures err.old err.new wanted status → RefusesWith Says err
      go (by_status n) so (same, quiet) = let l = low value in absurd (two_is_high n l.0 l.2 (sym so ∙ l.1) (sym same ∙ is))
        where
          two_is_high : (n m : ℕ) → m < 2 → by_status n ≡ by_status m → n ≡ 2 → ⊥
          two_is_high n m below so is = let same : n ≡ m = cc in omega (arith, same, below, is)
      go (by_line line) so whole = let l = low value in absurd (no_line line l.0 (sym so ∙ l.1))
        where
          no_line : (line : _) (m : ℕ) → by_line line ≡ by_status m → ⊥
          no_line line m so = let bad : ⊥ = cc in bad
  refused (Err told, says, inl whole) is = go told.fault refl whole.status
    where
      go : (fault : Fault) → told.fault ≡ fault → status ≡ status_of fault → RefusesWith Says err
      go (Refused refusal) so wanted = (told, refusal, so, whole.written, says)
      go Memory so wanted = absurd (omega (arith, wanted, is))
      go Read so wanted = absurd (omega (arith, wanted, is))
      go Write so wanted = absurd (omega (arith, wanted, is))
  refused (Err told, says, inr front) is = absurd (omega (arith, front.status, is))

  -- where a write of the report failed, the status is 3
  pub three_if_unreported : EndsBy report Says err status → err.failures err.old < err.failures err.new → status ≡ 3
  three_if_unreported (Ok value, says, reported) rose = go (report value) reported
    where
      go : (wanted : Report) → ReportsAs err.held err.failures err.old err.new wanted status → status ≡ 3
      go (by_status n) (is, quiet) = absurd (omega (arith, rose, ap err.failures quiet))
      go (by_line line) (inl whole) = absurd (omega (arith, rose, whole.counted))
      go (by_line line) (inr front) = front.status
  three_if_unreported (Err told, says, inl whole) rose = absurd (omega (arith, rose, whole.counted))
  three_if_unreported (Err told, says, inr front) rose = front.status

  -- and where the answer's fault has that status
  pub three_if_fault : (told_so : (answer : Result T FileFault) → Says answer → HasStatusThree answer) → EndsBy report Says err status → status ≡ 3
  three_if_fault told_so (Ok value, says, reported) = absurd (told_so (Ok value) says)
  three_if_fault told_so (Err told, says, inl whole) = whole.status ∙ told_so (Err told) says
  three_if_fault told_so (Err told, says, inr front) = front.status

-- each answer of the jobs has a status below 2
pub low_yes_or_no : (answer : Bool) → (n : ℕ) × (yes_or_no answer ≡ by_status n) × (n < 2)
low_yes_or_no true = (0, refl, omega arith)
low_yes_or_no false = (1, refl, omega arith)

pub low_unmet : (summary : Summary) → (n : ℕ) × (unmet_report summary ≡ by_status n) × (n < 2)
low_unmet summary = low_yes_or_no summary.is_empty

pub low_done : (answer : ⊤) → (n : ℕ) × (done answer ≡ by_status n) × (n < 2)
low_done answer = (0, refl, omega arith)
