use Rattle.std.proofs.Common.{Some, Err, refl, sym, ap, ◌∙◌, arith}
use Rattle.deb_base.specs.Bodies.{file_limit}
use Rattle.deb_base.specs.declared.fault.Fault.TheVariants.{Refused}
use Rattle.deb_control.specs.CheckedStates.{checked_state, lines_checked}
use Rattle.deb_control.proofs.CheckedSoFar.{failed_on, goes_on, sound_on}
use Rattle.deb_control.proofs.RefusedLines.{without_error}
use Rattle.deb_control.specs.Documents.{rules_of}
use Rattle.deb_control.specs.SeenRefusals.{refusal_seen_given}
use Rattle.deb_control.proofs.GivenRefusals.{all_given, few_done, few_passed, goes_passing, stands_at, taken_by}
use Rattle.deb_control.proofs.next_refusal.next_refusal.Goals as goal

pub returns-in-Ok-false-clause-finds : goal.returns-in-Ok-false-clause-finds
returns-in-Ok-false-clause-finds g c = λ doc text done goes.
    let has = c.loop.invariant.text doc text done goes in
    let passes = rw (c.in-Ok-false.is, c.in-Ok-false.field-0-test, has.reads) at c.advance.ensures.passes in
    let checks = goes_on _ _ _ _ c.loop.invariant.fault passes.checks in
    record { refused = has.refused; all = all_given doc text _ _ _ _ _ done has.awaits (checks.answers text has.awaits.answered has.awaits.fits) }

pub returns-in-Ok-false-clause-reads_at_most : goal.returns-in-Ok-false-clause-reads_at_most
returns-in-Ok-false-clause-reads_at_most g c = λ doc text done goes.
    let has = c.loop.invariant.text doc text done goes in
    let passes = rw has.reads at c.advance.ensures.passes in
    taken_by c.loop.invariant.fault passes.checks has.awaits

pub returns-in-Err-Refused-clause-finds : goal.returns-in-Err-Refused-clause-finds
unfolding file_limit
returns-in-Err-Refused-clause-finds g c = λ doc text done goes.
    let has = c.loop.invariant.text doc text done goes in
    let awaits = has.awaits in
    let failed = c.advance.new.self in
    let passes = rw (c.in-Err-Refused.is, c.in-Err-Refused.field-0-is, has.reads) at c.advance.ensures.passes in
    let lines = rw (c.in-Err-Refused.is, c.in-Err-Refused.field-0-is, has.reads) at c.advance.ensures.lines in
    let past = rw (c.in-Err-Refused.is, c.in-Err-Refused.field-0-is, has.reads) at c.advance.ensures.refused in
    let checks = goes_on _ _ _ _ c.loop.invariant.fault passes.checks in
    let refused = checks.answers text awaits.answered awaits.fits ∙ ap Err (sym c.in-Err-Refused.refusal-is) in
    let fault = failed_on _ _ _ _ c.loop.invariant.fault passes.checks ∙ ap (λ r. Some (Refused r)) (sym c.in-Err-Refused.refusal-is) in
    let few = few_done doc text _ _ done _ awaits.remains refused in
    record {
      seen = refusal_seen_given (rules_of doc) text awaits.answered _;
      same = refl;
      refused = omega (arith, few, has.refused, c.saturating_add-summary-in-Err-Refused.ensures);
      stands = stands_at doc text _ (checked_state failed) _ _ _ done _ _ (lines_checked failed) awaits refused fault (checks.refused text awaits.answered awaits.fits)
          (without_error _ _ c.loop.invariant.fault lines text awaits.answered awaits.fits) (ap Refused (sym c.in-Err-Refused.refusal-is))
          (without_error _ _ c.loop.invariant.fault past text awaits.answered awaits.fits);
    }

pub returns-in-Err-Refused-clause-reads_at_most : goal.returns-in-Err-Refused-clause-reads_at_most
returns-in-Err-Refused-clause-reads_at_most g c = λ doc text done goes.
    let has = c.loop.invariant.text doc text done goes in
    let passes = rw has.reads at c.advance.ensures.passes in
    taken_by c.loop.invariant.fault passes.checks has.awaits

pub returns-in-Err-Memory-clause-reads_at_most : goal.returns-in-Err-Memory-clause-reads_at_most
returns-in-Err-Memory-clause-reads_at_most g c = λ doc text done goes.
    let has = c.loop.invariant.text doc text done goes in
    let passes = rw has.reads at c.advance.ensures.passes in
    taken_by c.loop.invariant.fault passes.checks has.awaits

pub returns-in-Err-Read-clause-reads_at_most : goal.returns-in-Err-Read-clause-reads_at_most
returns-in-Err-Read-clause-reads_at_most g c = λ doc text done goes.
    let has = c.loop.invariant.text doc text done goes in
    let passes = rw has.reads at c.advance.ensures.passes in
    taken_by c.loop.invariant.fault passes.checks has.awaits

pub loop-preserved : goal.loop-preserved
unfolding file_limit
loop-preserved g c =
    let passes = rw (c.in-Ok-true.is, c.in-Ok-true.field-0-test) at c.advance.ensures.passes in
    let checks = goes_on _ _ _ _ c.loop.invariant.fault passes.checks in
    record {
      doc = c.advance.ensures.doc ∙ c.loop.invariant.doc;
      fault = sound_on _ _ _ _ c.loop.invariant.fault passes.checks;
      reads = checks.counted ∙ c.loop.invariant.reads;
      count = omega (arith, checks.count, c.loop.invariant.count);
      text = λ doc text done goes.
          let has = c.loop.invariant.text doc text done goes in
          let on = rw (c.in-Ok-true.is, c.in-Ok-true.field-0-test, has.reads) at c.advance.ensures.passes in
          let gives = (goes_on _ _ _ _ c.loop.invariant.fault on.checks).answers text has.awaits.answered has.awaits.fits in
          goes_passing doc text _ _ c.loop.summary _ _ done _ _ has gives c.advance.ensures.doc
          (omega (arith, few_passed doc text _ c.loop.summary _ done has, checks.count, checks.few, c.saturating_add-summary.ensures));
    }
