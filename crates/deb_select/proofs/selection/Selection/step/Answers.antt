use Rattle.std.proofs.Common.{◌≡◌, ◌∙◌, Bool, true, Ok, Err, Some, refl, sym, ap, subst, arith}
use Rattle.std.specs.Prelude.{⊤}
use Rattle.std.proofs.lemmas.Result.{err_from_is_err_and}
use Rattle.deb_base.specs.Bodies.{file_limit}
use Rattle.deb_base.specs.declared.fault.Fault.TheVariants.{Refused}
use Rattle.deb_control.specs.CheckedStates.{checked_state, doc_read, lines_checked}
use Rattle.deb_control.specs.Checking.{passing_seen}
use Rattle.deb_control.specs.Paragraphs.{AreValuesOf}
use Rattle.deb_control.proofs.CheckedSoFar.{failed_on, goes_on, sound_on}
use Rattle.deb_control.proofs.RefusedLines.{without_error}
use Rattle.deb_select.specs.AcceptedWalks.{WalkedFirst, sinks}
use Rattle.deb_select.specs.Accepting.{sink_failures}
use Rattle.deb_select.specs.Selections.{HasConditions}
use Rattle.deb_select.specs.declared.writing.Put.{Put}
use Rattle.deb_select.proofs.AcceptedFaults.{in_form, line_counts, line_steps, no_refusal, put_counts, put_steps}
use Rattle.deb_select.proofs.AcceptedWalks.{by_leaving, few_refused, few_so_far, fits_again, fits_leaving, fits_walk, found_next, taken_walk, walked_all, walked_first, walked_line, walked_part, walked_passing}
use Rattle.deb_select.proofs.selection.Selection.step.Goals as goal

pub returns-in_ok-put-in-Ok-true-clause-steps : goal.returns-in_ok-put-in-Ok-true-clause-steps
returns-in_ok-put-in-Ok-true-clause-steps g c = λ asked text before form has w.
    let passes = rw (c.in-Ok-true.is, c.in-Ok-true.field-0-test, w.reads) at c.advance.ensures.passes in
    let shown = rw (c.in-Ok-true.is, w.reads) at c.advance.ensures.lines_found in
    let checks = goes_on _ _ _ _ c.requires.sound passes.checks in
    let found = found_next text w.answered passes.given (lines_checked c.advance.new.self) checks (passes.keeps refl).passes w.fits (without_error _ _ c.requires.sound shown text w.answered w.fits) in
    let same : doc_read c.advance.new.self ≡ asked.kind = c.advance.ensures.doc ∙ w.reads in
    let puts = c.in_ok-put-in-Ok-true.ensures.puts asked.selection passes.given found.values found.p (subst (λ d. HasConditions d asked.selection c.args.self.now) (sym same) has) passes.current (subst (λ d. AreValuesOf d passes.given found.values) (sym same) found.are) found.lines_are found.first found.fields in
    let few = few_so_far w _ checks.count checks.few in
    walked_passing w (passing_seen asked.kind passes.given) _ _ found.gives found.values found.are found.p found.at c.advance.new.self c.in_ok-put-in-Ok-true.put (g.W.Sink.held c.put.new.writer) _ refl same
    (in_form asked.form _ c.args.walk.now.outcome.begun asked.selection found.values found.p (Ok c.in_ok-put-in-Ok-true.put) (g.W.Sink.held c.args.writer.now) (g.W.Sink.held c.put.new.writer) form puts) c.count.ensures.checked (c.count.ensures.passed few.0) (c.count.ensures.outcome few.1)

pub returns-in_ok-put-in-Ok-true-clause-fits : goal.returns-in_ok-put-in-Ok-true-clause-fits
returns-in_ok-put-in-Ok-true-clause-fits g c = λ text has is.
    let passes = rw (c.in-Ok-true.is, c.in-Ok-true.field-0-test) at c.advance.ensures.passes in
    let checks = goes_on _ _ _ _ c.requires.sound passes.checks in
    let again = fits_again text has.answered passes.given checks has.fits in
    fits_walk _ text _ c.advance.new.self _ again.0 c.advance.ensures.doc c.count.ensures.checked again.1

pub returns-in_err-put-in-Ok-true-clause-steps : goal.returns-in_err-put-in-Ok-true-clause-steps
returns-in_err-put-in-Ok-true-clause-steps g c = λ asked text before form has w.
    let e = err_from_is_err_and c.from_residual.result c.from_residual.ensures.1 in
    let passes = rw (c.in-Ok-true.is, c.in-Ok-true.field-0-test, w.reads) at c.advance.ensures.passes in
    let shown = rw (c.in-Ok-true.is, w.reads) at c.advance.ensures.lines_found in
    let checks = goes_on _ _ _ _ c.requires.sound passes.checks in
    let found = found_next text w.answered passes.given (lines_checked c.advance.new.self) checks (passes.keeps refl).passes w.fits (without_error _ _ c.requires.sound shown text w.answered w.fits) in
    let same : doc_read c.advance.new.self ≡ asked.kind = c.advance.ensures.doc ∙ w.reads in
    let puts = c.in_err-put-in-Ok-true.ensures.puts asked.selection passes.given found.values found.p (subst (λ d. HasConditions d asked.selection c.args.self.now) (sym same) has) passes.current (subst (λ d. AreValuesOf d passes.given found.values) (sym same) found.are) found.lines_are found.first found.fields in
    rw (e.1, e.2)
    (put_steps asked text _ _ before _ asked.form c.args.walk.now.outcome.begun asked.selection found.values found.p (g.W.Sink.held c.args.writer.now) (g.W.Sink.held c.put.new.writer) c.in_err-put-in-Ok-true.field-0.0
    (in_form asked.form _ c.args.walk.now.outcome.begun asked.selection found.values found.p (Err c.in_err-put-in-Ok-true.field-0.0) (g.W.Sink.held c.args.writer.now) (g.W.Sink.held c.put.new.writer) form puts)
    (λ held. subst (λ h. WalkedFirst asked text before (sinks h (g.E.Sink.held c.args.reports.now))) held (walked_first w))
    (λ front. walked_part w (passing_seen asked.kind passes.given) _ _ found.gives found.values found.are found.p found.at _ front))

pub returns-in-Ok-false-clause-steps : goal.returns-in-Ok-false-clause-steps
returns-in-Ok-false-clause-steps g c = λ asked text before form has w.
    let passes = rw (c.in-Ok-false.is, c.in-Ok-false.field-0-test, w.reads) at c.advance.ensures.passes in
    let checks = goes_on _ _ _ _ c.requires.sound passes.checks in
    walked_all w _ _ _ (checks.answers text w.answered w.fits) refl refl

pub returns-in-Err-Memory-clause-steps : goal.returns-in-Err-Memory-clause-steps
returns-in-Err-Memory-clause-steps g c = λ asked text before form has w. walked_first w

pub returns-in-Err-Read-clause-steps : goal.returns-in-Err-Read-clause-steps
returns-in-Err-Read-clause-steps g c = λ asked text before form has w. walked_first w

pub returns-in_err-write_line-in-Err-Refused-clause-steps : goal.returns-in_err-write_line-in-Err-Refused-clause-steps
returns-in_err-write_line-in-Err-Refused-clause-steps g c = λ asked text before form has w.
    let e = err_from_is_err_and c.from_residual-in_err-write_line-in-Err-Refused.result c.from_residual-in_err-write_line-in-Err-Refused.ensures.1 in
    let passes = rw (c.in-Err-Refused.is, c.in-Err-Refused.field-0-is, w.reads) at c.advance.ensures.passes in
    let checks = goes_on _ _ _ _ c.requires.sound passes.checks in
    let refused = checks.answers text w.answered w.fits ∙ ap Err (sym c.in-Err-Refused.refusal-is) in
    rw (e.1, e.2)
    (line_steps asked text _ _ before _ _ c.in_err-write_line-in-Err-Refused.ensures.fault (walked_line w _ refused _ c.in_err-write_line-in-Err-Refused.ensures.written))

pub returns-in_ok-write_line-in-Err-Refused-clause-steps : goal.returns-in_ok-write_line-in-Err-Refused-clause-steps
unfolding file_limit
returns-in_ok-write_line-in-Err-Refused-clause-steps g c = λ asked text before form has w.
    let passes = rw (c.in-Err-Refused.is, c.in-Err-Refused.field-0-is, w.reads) at c.advance.ensures.passes in
    let shown = rw (c.in-Err-Refused.is, c.in-Err-Refused.field-0-is, w.reads) at c.advance.ensures.lines in
    let past = rw (c.in-Err-Refused.is, c.in-Err-Refused.field-0-is, ← c.in-Err-Refused.refusal-is, w.reads) at c.advance.ensures.refused in
    let checks = goes_on _ _ _ _ c.requires.sound passes.checks in
    let refused = checks.answers text w.answered w.fits ∙ ap Err (sym c.in-Err-Refused.refusal-is) in
    let lines = without_error _ _ c.requires.sound shown text w.answered w.fits in
    let fault = failed_on _ _ _ _ c.requires.sound passes.checks ∙ ap (λ r. Some (Refused r)) (sym c.in-Err-Refused.refusal-is) in
    let same : doc_read c.advance.new.self ≡ asked.kind = c.advance.ensures.doc ∙ w.reads in
    let few = few_refused w _ refused in
    by_leaving w _ refused _ c.in_ok-write_line-in-Err-Refused.ensures.written c.advance.new.self _ _ _
    same lines fault (without_error _ _ c.requires.sound past text w.answered w.fits)
    (c.leave.ensures.doc) (c.leave.ensures.fits text) c.leave.ensures.resumed (c.leave.ensures.refused (omega (arith, few))) c.leave.ensures.outcome

pub returns-in_ok-put-in-Ok-true-clause-reads_at_most : goal.returns-in_ok-put-in-Ok-true-clause-reads_at_most
returns-in_ok-put-in-Ok-true-clause-reads_at_most g c = λ text has. taken_walk has.answered c.requires.sound c.advance.ensures.passes.checks has.fits

pub returns-in_err-put-in-Ok-true-clause-reads_at_most : goal.returns-in_err-put-in-Ok-true-clause-reads_at_most
returns-in_err-put-in-Ok-true-clause-reads_at_most g c = λ text has. taken_walk has.answered c.requires.sound c.advance.ensures.passes.checks has.fits

pub returns-in-Ok-false-clause-reads_at_most : goal.returns-in-Ok-false-clause-reads_at_most
returns-in-Ok-false-clause-reads_at_most g c = λ text has. taken_walk has.answered c.requires.sound c.advance.ensures.passes.checks has.fits

pub returns-in-Err-Memory-clause-reads_at_most : goal.returns-in-Err-Memory-clause-reads_at_most
returns-in-Err-Memory-clause-reads_at_most g c = λ text has. taken_walk has.answered c.requires.sound c.advance.ensures.passes.checks has.fits

pub returns-in-Err-Read-clause-reads_at_most : goal.returns-in-Err-Read-clause-reads_at_most
returns-in-Err-Read-clause-reads_at_most g c = λ text has. taken_walk has.answered c.requires.sound c.advance.ensures.passes.checks has.fits

pub returns-in_err-write_line-in-Err-Refused-clause-reads_at_most : goal.returns-in_err-write_line-in-Err-Refused-clause-reads_at_most
returns-in_err-write_line-in-Err-Refused-clause-reads_at_most g c = λ text has. taken_walk has.answered c.requires.sound c.advance.ensures.passes.checks has.fits

pub returns-in_ok-write_line-in-Err-Refused-clause-reads_at_most : goal.returns-in_ok-write_line-in-Err-Refused-clause-reads_at_most
returns-in_ok-write_line-in-Err-Refused-clause-reads_at_most g c = λ text has. taken_walk has.answered c.requires.sound c.advance.ensures.passes.checks has.fits

pub returns-in_ok-put-in-Ok-true-clause-sound : goal.returns-in_ok-put-in-Ok-true-clause-sound
returns-in_ok-put-in-Ok-true-clause-sound g c = λ is.
    let passes = rw (c.in-Ok-true.is, c.in-Ok-true.field-0-test) at c.advance.ensures.passes in
    ap (λ ck. (checked_state ck).fault) c.count.ensures.checked ∙ sound_on _ _ _ _ c.requires.sound passes.checks

pub returns-in_ok-write_line-in-Err-Refused-clause-fits : goal.returns-in_ok-write_line-in-Err-Refused-clause-fits
returns-in_ok-write_line-in-Err-Refused-clause-fits g c = λ text has is.
    let passes = rw (c.in-Err-Refused.is, c.in-Err-Refused.field-0-is) at c.advance.ensures.passes in
    let past = rw (c.in-Err-Refused.is, c.in-Err-Refused.field-0-is, ← c.in-Err-Refused.refusal-is) at c.advance.ensures.refused in
    let fault = failed_on _ _ _ _ c.requires.sound passes.checks ∙ ap (λ r. Some (Refused r)) (sym c.in-Err-Refused.refusal-is) in
    let goes : c.leave.result ≡ true = cc in
    fits_leaving _ text has.answered _ c.advance.new.self _ _ c.advance.ensures.doc fault (without_error _ _ c.requires.sound past text has.answered has.fits)
    c.leave.ensures.doc (c.leave.ensures.fits text) (sym c.leave.ensures.resumed ∙ goes)

pub returns-in_err-put-in-Ok-true-clause-fault : goal.returns-in_err-put-in-Ok-true-clause-fault
returns-in_err-put-in-Ok-true-clause-fault g c =
    let e = err_from_is_err_and c.from_residual.result c.from_residual.ensures.1 in
    rw (e.1, e.2) (no_refusal Put _ c.in_err-put-in-Ok-true.ensures.fault)

pub returns-in_err-put-in-Ok-true-clause-counts_write_failure : goal.returns-in_err-put-in-Ok-true-clause-counts_write_failure
returns-in_err-put-in-Ok-true-clause-counts_write_failure g c =
    let e = err_from_is_err_and c.from_residual.result c.from_residual.ensures.1 in
    rw (e.1, e.2) (put_counts Put Bool _ _ _ _ c.in_err-put-in-Ok-true.ensures.fault c.in_err-put-in-Ok-true.ensures.counts_failure)

pub returns-in_ok-put-in-Ok-true-clause-counts_write_failure : goal.returns-in_ok-put-in-Ok-true-clause-counts_write_failure
returns-in_ok-put-in-Ok-true-clause-counts_write_failure g c = ap (λ n. sink_failures n (g.E.Sink.failures c.args.reports.now)) c.in_ok-put-in-Ok-true.ensures.counts_failure

pub returns-in_err-write_line-in-Err-Refused-clause-counts_write_failure : goal.returns-in_err-write_line-in-Err-Refused-clause-counts_write_failure
returns-in_err-write_line-in-Err-Refused-clause-counts_write_failure g c =
    let e = err_from_is_err_and c.from_residual-in_err-write_line-in-Err-Refused.result c.from_residual-in_err-write_line-in-Err-Refused.ensures.1 in
    rw (e.1, e.2) (line_counts ⊤ Bool _ _ _ _ c.in_err-write_line-in-Err-Refused.ensures.fault c.in_err-write_line-in-Err-Refused.ensures.counts_failure)

pub returns-in_ok-write_line-in-Err-Refused-clause-counts_write_failure : goal.returns-in_ok-write_line-in-Err-Refused-clause-counts_write_failure
returns-in_ok-write_line-in-Err-Refused-clause-counts_write_failure g c = ap (λ n. sink_failures (g.W.Sink.failures c.args.writer.now) n) c.in_ok-write_line-in-Err-Refused.ensures.counts_failure
