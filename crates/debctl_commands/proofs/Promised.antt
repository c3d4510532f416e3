-- From what a job promises to what each status says.
use Rattle.std.proofs.Common.{◌≡◌, ◌<◌, ℕ, Ok, Err, inl, inr, arith, refl, sym, ap, ◌∙◌}
use Rattle.std.specs.Io.KnownBytes.{Appends}
use Rattle.deb_base.specs.declared.fault.Fault.{Fault}
use Rattle.deb_base.specs.declared.fault.Fault.TheVariants.{Refused, Memory, Read, Write}
use Rattle.deb_base.specs.declared.refusal.Refusal.{Refusal}
use Rattle.debctl_commands.specs.JobDevices.{ReaderOfJob, WriterOfJob}
use Rattle.debctl_commands.specs.Promises.{Answers, Ends, HasStatus, Promise, Refuses, RefusesBy}
use Rattle.debctl_commands.specs.Reporting.{Report, ReportsAs, by_line, by_status, status_of}

-- no fault has a status below 2
faults_from_two : (fault : Fault) (status : ℕ) → status ≡ status_of fault → status < 2 → ⊥
faults_from_two (Refused refusal) status is below = omega (arith, is, below)
faults_from_two Memory status is below = omega (arith, is, below)
faults_from_two Read status is below = omega (arith, is, below)
faults_from_two Write status is below = omega (arith, is, below)

module _ {W E : Type 0} (promise : Promise W) (first second : ReaderOfJob) (out : WriterOfJob W) (err : WriterOfJob E) (status : ℕ) where
  -- a status below 2 is that of the answer, and nothing was reported
  pub answered : (n : ℕ) → n < 2 → Ends promise first second out err status → status ≡ n → (err.new ≡ err.old) × Answers promise first.text second.text out (HasStatus promise n)
  answered n below (Ok answer, says, reported) is = go (promise.report answer) refl reported
    where
      go : (report : Report) → promise.report answer ≡ report → ReportsAs err.held err.failures err.old err.new report status → (err.new ≡ err.old) × Answers promise first.text second.text out (HasStatus promise n)
      go (by_status wanted) so (wanted_is, quiet) = (quiet, record { first = first; first_text = refl; second = second; second_text = refl; answer = Ok answer; says = says; is = so ∙ ap by_status (sym wanted_is ∙ is) })
      go (by_line line) so (inl whole) = absurd (omega (arith, whole.status, is, below))
      go (by_line line) so (inr front) = absurd (omega (arith, front.status, is, below))
  answered n below (Err failure, says, inl whole) is = absurd (faults_from_two (promise.fault failure) status whole.status (omega (arith, is, below)))
  answered n below (Err failure, says, inr front) is = absurd (omega (arith, front.status, is, below))

  pub done : Ends promise first second out err status → status ≡ 0 → (err.new ≡ err.old) × Answers promise first.text second.text out (HasStatus promise 0)
  done ends is = answered 0 (omega arith) ends is

  pub says_no : Ends promise first second out err status → status ≡ 1 → (err.new ≡ err.old) × Answers promise first.text second.text out (HasStatus promise 1)
  says_no ends is = answered 1 (omega arith) ends is

  -- status 2 is that of a refusal, or of such an answer
  pub refused : Ends promise first second out err status → status ≡ 2 → Answers promise first.text second.text out (Refuses promise (err.held err.old) (err.held err.new))
  refused (Ok answer, says, reported) is = record { first = first; first_text = refl; second = second; second_text = refl; answer = Ok answer; says = says; is = go (promise.report answer) reported }
    where
      go : (report : Report) → ReportsAs err.held err.failures err.old err.new report status → RefusesBy report (err.held err.old) (err.held err.new)
      go (by_status wanted) (wanted_is, quiet) = (sym wanted_is ∙ is, ap err.held quiet)
      go (by_line line) (inl whole) = whole.written
      go (by_line line) (inr front) = absurd (omega (arith, front.status, is))
  refused (Err failure, says, inl whole) is = record { first = first; first_text = refl; second = second; second_text = refl; answer = Err failure; says = says; is = go (promise.fault failure) refl whole.status }
    where
      go : (fault : Fault) → promise.fault failure ≡ fault → status ≡ status_of fault → (refusal : Refusal) × (promise.fault failure ≡ Refused refusal) × Appends (err.held err.old) (err.held err.new) (promise.line failure)
      go (Refused refusal) so wanted = (refusal, so, whole.written)
      go Memory so wanted = absurd (omega (arith, wanted, is))
      go Read so wanted = absurd (omega (arith, wanted, is))
      go Write so wanted = absurd (omega (arith, wanted, is))
  refused (Err failure, says, inr front) is = absurd (omega (arith, front.status, is))

  -- where a write of the report failed, the status is 3
  pub three_if_unreported : Ends promise first second out err status → err.failures err.old < err.failures err.new → status ≡ 3
  three_if_unreported (Ok answer, says, reported) rose = go (promise.report answer) reported
    where
      go : (report : Report) → ReportsAs err.held err.failures err.old err.new report status → status ≡ 3
      go (by_status wanted) (is, quiet) = absurd (omega (arith, rose, ap err.failures quiet))
      go (by_line line) (inl whole) = absurd (omega (arith, rose, whole.counted))
      go (by_line line) (inr front) = front.status
  three_if_unreported (Err failure, says, inl whole) rose = absurd (omega (arith, rose, whole.counted))
  three_if_unreported (Err failure, says, inr front) rose = front.status
