-- What an error of a walk says, and which of the two sinks has failed.
use Rattle.std.proofs.Common.{◌≡◌, ◌<◌, ◌⊎◌, inl, inr, ℕ, Bool, List, Option, Result, Ok, Err, refl, sym, ap, ap₂, subst, arith}
use Rattle.deb_base.specs.Devices.{AppendsFront, last_count, one_more, write_failures_after}
use Rattle.deb_base.specs.declared.fault.Fault.{Fault}
use Rattle.deb_base.specs.declared.fault.Fault.TheVariants.{Refused, Memory, Read, Write}
use Rattle.deb_syntax.specs.Lines.{Paragraph}
use Rattle.deb_field.specs.Values.{ValueMeaning}
use Rattle.deb_control.specs.Calls.{IfCutOff, IfWriteFailed}
use Rattle.deb_control.specs.ValueFiles.{ValueEntries}
use Rattle.deb_control.specs.WrittenRefusals.{IsNoRefusal}
use Rattle.deb_select.specs.AcceptedWalks.{Sinks, StepsOn, WalkedFirst, WalkedPart}
use Rattle.deb_select.specs.Accepting.{CountsWriteFailure, SinkFailures, WriteFaultIffOneFailed, sink_failures}
use Rattle.deb_select.specs.Conditions.{SelectionMeaning}
use Rattle.deb_select.specs.Forms.{FormMeaning, piece_if}
use Rattle.deb_select.specs.Selecting.{IsWritersFault, PutsSelected, Request}
use Rattle.deb_select.specs.declared.accepting.Walk.{Walk}
use Rattle.deb_select.specs.declared.writing.Put.{Put}

module _ (T : Type 0) (asked : Request) (text : List ℕ) (walk : Walk) (left : Option (List ℕ)) (old now : Sinks) (P : Type 0) where
  pub step_cut : (fault : Fault) → (WalkedFirst asked text old now → P) → StepsOn asked text (Err fault) walk left old now → IfCutOff {T = T} (Err fault) P
  step_cut (Refused refusal) says steps = tt
  step_cut Memory says steps = says steps
  step_cut Read says steps = says steps
  step_cut Write says steps = tt

  pub step_failed : (fault : Fault) → (WalkedPart asked text old now → P) → StepsOn asked text (Err fault) walk left old now → IfWriteFailed {T = T} (Err fault) P
  step_failed (Refused refusal) says steps = tt
  step_failed Memory says steps = tt
  step_failed Read says steps = tt
  step_failed Write says steps = says steps

module _ (asked : Request) (text : List ℕ) (walk : Walk) (left : Option (List ℕ)) (old now : Sinks) where
  -- a put that fails
  pub put_steps : (form : FormMeaning) (begun : Bool) (selection : SelectionMeaning) (values : ValueEntries ValueMeaning) (p : Paragraph) (held new : Option (List ℕ)) (fault : Fault) → PutsSelected form begun selection values p (Err fault) held new → (held ≡ new → WalkedFirst asked text old now) → (AppendsFront held new (piece_if form begun selection values p) → WalkedPart asked text old now) → StepsOn asked text (Err fault) walk left old now
  put_steps form begun selection values p held new (Refused refusal) puts first part = puts
  put_steps form begun selection values p held new Memory puts first part = first puts
  put_steps form begun selection values p held new Read puts first part = absurd puts
  put_steps form begun selection values p held new Write puts first part = part puts

  -- a line that isn't written
  pub line_steps : (fault : Fault) → fault ≡ Write → WalkedPart asked text old now → StepsOn asked text (Err fault) walk left old now
  line_steps fault is part = subst (λ f. StepsOn asked text (Err f) walk left old now) (sym is) part

-- an error of a call is counted as that of another
pub counts_err : (S T : Type 0) (old new : SinkFailures) (fault : Fault) → CountsWriteFailure {T = S} old new (Err fault) → CountsWriteFailure {T = T} old new (Err fault)
counts_err S T old new (Refused refusal) counts = counts
counts_err S T old new Memory counts = counts
counts_err S T old new Read counts = counts
counts_err S T old new Write counts = counts

-- the same counts before a call
pub counts_from : (T : Type 0) (writer writer_was reports reports_was : ℕ) (new : SinkFailures) (result : Result T Fault) → writer ≡ writer_was → reports ≡ reports_was → CountsWriteFailure (sink_failures writer reports) new result → CountsWriteFailure (sink_failures writer_was reports_was) new result
counts_from T writer writer_was reports reports_was new result same alike counts = subst (λ old. CountsWriteFailure old new result) (ap₂ sink_failures same alike) counts

-- the writer has failed, or the sink of the reports
pub put_counts : (S T : Type 0) (writer reports after : ℕ) (fault : Fault) → IsWritersFault {T = S} (Err fault) → after ≡ write_failures_after {T = S} writer (Err fault) → CountsWriteFailure {T = T} (sink_failures writer reports) (sink_failures after reports) (Err fault)
put_counts S T writer reports after (Refused refusal) is counts = absurd is
put_counts S T writer reports after Memory is counts = ap (λ n. sink_failures n reports) counts
put_counts S T writer reports after Read is counts = absurd is
put_counts S T writer reports after Write is counts = inl (ap (λ n. sink_failures n reports) counts)

pub line_counts : (S T : Type 0) (writer reports after : ℕ) (fault : Fault) → fault ≡ Write → after ≡ write_failures_after {T = S} reports (Err fault) → CountsWriteFailure {T = T} (sink_failures writer reports) (sink_failures writer after) (Err fault)
line_counts S T writer reports after (Refused refusal) is counts = absurd (cc)
line_counts S T writer reports after Memory is counts = absurd (cc)
line_counts S T writer reports after Read is counts = absurd (cc)
line_counts S T writer reports after Write is counts = inr (ap (λ n. sink_failures writer n) counts)

pub no_refusal : (T : Type 0) (fault : Fault) → IsWritersFault {T = T} (Err fault) → IsNoRefusal fault
no_refusal T (Refused refusal) is = is
no_refusal T Memory is = tt
no_refusal T Read is = tt
no_refusal T Write is = tt

-- Write is answered exactly where one of them has failed
module _ (old new : SinkFailures) where
  none_rose : new ≡ old → (old.writer < new.writer) ⊎ (old.reports < new.reports) → ⊥
  none_rose same (inl rose) = absurd (omega (arith, rose, ap (λ f. f.writer) same))
  none_rose same (inr rose) = absurd (omega (arith, rose, ap (λ f. f.reports) same))

  one_rose : old.writer < last_count → old.reports < last_count → (new ≡ record old { writer = one_more old.writer }) ⊎ (new ≡ record old { reports = one_more old.reports }) → (old.writer < new.writer) ⊎ (old.reports < new.reports)
  one_rose few least (inl same) = inl (omega (arith, few, ap (λ f. f.writer) same))
  one_rose few least (inr same) = inr (omega (arith, least, ap (λ f. f.reports) same))

  pub one_failed : {T : Type 0} (result : Result T Fault) → CountsWriteFailure old new result → WriteFaultIffOneFailed old new result
  one_failed (Ok done) counts few least = (λ is. absurd (cc), λ rose. absurd (none_rose counts rose))
  one_failed (Err (Refused refusal)) counts few least = (λ is. absurd (cc), λ rose. absurd (none_rose counts rose))
  one_failed (Err Memory) counts few least = (λ is. absurd (cc), λ rose. absurd (none_rose counts rose))
  one_failed (Err Read) counts few least = (λ is. absurd (cc), λ rose. absurd (none_rose counts rose))
  one_failed (Err Write) counts few least = (λ is. one_rose few least counts, λ rose. refl)

-- what holds after a failed write
pub line_failed : (T P : Type 0) (fault : Fault) → P → IfWriteFailed {T = T} (Err fault) P
line_failed T P (Refused refusal) p = tt
line_failed T P Memory p = tt
line_failed T P Read p = tt
line_failed T P Write p = p

pub in_form : (a b : FormMeaning) (begun : Bool) (selection : SelectionMeaning) (values : ValueEntries ValueMeaning) (p : Paragraph) (answer : Result Put Fault) (old new : Option (List ℕ)) → a ≡ b → PutsSelected b begun selection values p answer old new → PutsSelected a begun selection values p answer old new
in_form a b begun selection values p answer old new same puts = subst (λ f. PutsSelected f begun selection values p answer old new) (sym same) puts
