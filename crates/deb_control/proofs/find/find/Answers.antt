use Rattle.deb_control.proofs.Common.{◌≡◌, Bool, None, Some, refl, sym, ap, ◌∙◌, err_from_is_err_and, goes-from_passes, state_of, seen_of, Advances}
use Rattle.deb_syntax.specs.Paragraphs.{judged_last}
use Rattle.deb_control.proofs.Checks.{few-totals, checks-advance_err, checks-end, says-found, none_found, one_found}
use Rattle.deb_control.proofs.RefusedLines.{lines_are, lines_none, lines_refused, of_ok, of_refusal, shown_by_answer, without_error}
use Rattle.deb_control.proofs.Resuming.{any_error, error_inside, fits_refused, found_sound, if_error, is_inside-same, unchanged_error}
use Rattle.deb_control.proofs.find.find.Goals as goal

pub returns-then-is_complete-clause-checks : goal.returns-then-is_complete-clause-checks
returns-then-is_complete-clause-checks g c = λ shown shown_now kept kept_now.
    c.none_follows.ensures.checks shown shown_now kept kept_now c.args.doc c.args.totals.now _ (sym c.is_complete.ensures ∙ c.if-is_complete.true)

pub returns-in_err-advance-clause-checks : goal.returns-in_err-advance-clause-checks
returns-in_err-advance-clause-checks g c = λ shown shown_now kept kept_now.
    let p = err_from_is_err_and c.from_residual.result c.from_residual.ensures.1 in
    let totals = c.args.totals.now in
    let advances = goes-from_passes Advances _ _ _ c.requires.sound c.in_err-advance.ensures.passes in
    rw (p.1, p.2) (checks-advance_err c.args.doc shown shown_now kept kept_now _ _ totals.paragraphs totals.bytes _ _ _ _ (few-totals totals) (sym c.is_complete.ensures ∙ c.if-is_complete.false) c.in_err-advance.field-0.0 advances)

pub returns-in-None-clause-checks : goal.returns-in-None-clause-checks
returns-in-None-clause-checks g c = λ shown shown_now kept kept_now.
    let totals = c.args.totals.now in
    let state = state_of c.advance.new.self in
    let none : state.current ≡ None = sym c.in-None.ensures in
    let advances = goes-from_passes Advances _ _ _ c.requires.sound c.in_ok-advance.ensures.passes in
    checks-end c.args.doc shown shown_now kept kept_now _ state totals.paragraphs totals.bytes _ _ _ _ (few-totals totals) (sym c.is_complete.ensures ∙ c.if-is_complete.false) totals c.lines.result _ _ c.end.result
    refl (none_found state c.in_ok-advance.field-0 none) advances c.lines.ensures.finished c.end.ensures.answer

pub returns-in-Some-clause-checks : goal.returns-in-Some-clause-checks
returns-in-Some-clause-checks g c = λ shown shown_now kept kept_now.
    let totals = c.args.totals.now in
    let state = state_of c.advance.new.self in
    let seen = seen_of c.in-Some.raw in
    let some : state.current ≡ Some seen = sym c.in-Some.ensures in
    let advances = goes-from_passes Advances _ _ _ c.requires.sound c.in_ok-advance.ensures.passes in
    says-found c.args.doc shown shown_now kept kept_now _ state totals.paragraphs totals.bytes _ _ _ _ (few-totals totals) (sym c.is_complete.ensures ∙ c.if-is_complete.false) totals c.pass.new.totals seen state.current _ c.pass.result
    c.in-Some.raw.numbered refl refl some (one_found state c.in_ok-advance.field-0 seen some c.in_ok-advance.ensures.found) advances c.pass.ensures.ok c.pass.ensures.fault c.pass.ensures.unchanged

pub returns-then-is_complete-clause-lines : goal.returns-then-is_complete-clause-lines
returns-then-is_complete-clause-lines g c = λ shown kept text answered fits.
    of_refusal c.none_follows.result _ (lines_none c.args.doc text answered c.args.totals.now.paragraphs fits.counted (sym c.is_complete.ensures ∙ c.if-is_complete.true) (judged_last c.none_follows.new.paragraphs) c.none_follows.ensures.unjudged)

pub returns-then-is_complete-clause-lines_found : goal.returns-then-is_complete-clause-lines_found
returns-then-is_complete-clause-lines_found g c = λ shown kept text answered fits.
    of_ok c.none_follows.result _ (lines_none c.args.doc text answered c.args.totals.now.paragraphs fits.counted (sym c.is_complete.ensures ∙ c.if-is_complete.true) (judged_last c.none_follows.new.paragraphs) c.none_follows.ensures.unjudged)

pub returns-in_err-advance-clause-lines : goal.returns-in_err-advance-clause-lines
returns-in_err-advance-clause-lines g c = λ shown kept text answered fits.
    let p = err_from_is_err_and c.from_residual.result c.from_residual.ensures.1 in
    let judged = without_error _ _ c.requires.sound c.in_err-advance.ensures.judged in
    rw (p.1, p.2) (lines_refused c.args.doc text answered c.args.totals.now.paragraphs fits.counted (sym c.is_complete.ensures ∙ c.if-is_complete.false) fits.passed fits.paragraphs Bool c.in_err-advance.field-0.0 (judged_last c.advance.new.self) (judged text fits.passed fits.fits))

pub returns-in-None-clause-lines : goal.returns-in-None-clause-lines
returns-in-None-clause-lines g c = λ shown kept text answered fits.
    let judged = without_error _ _ c.requires.sound c.in_ok-advance.ensures.judged in
    let last = judged_last c.advance.new.self in
    of_refusal c.end.result _ (lines_are c.args.doc text answered c.args.totals.now.paragraphs fits.counted (sym c.is_complete.ensures ∙ c.if-is_complete.false) fits.passed fits.paragraphs last (shown_by_answer text _ (state_of c.advance.new.self) c.in_ok-advance.field-0 last (judged text fits.passed fits.fits)))

pub returns-in-None-clause-lines_found : goal.returns-in-None-clause-lines_found
returns-in-None-clause-lines_found g c = λ shown kept text answered fits.
    let judged = without_error _ _ c.requires.sound c.in_ok-advance.ensures.judged in
    let last = judged_last c.advance.new.self in
    of_ok c.end.result _ (lines_are c.args.doc text answered c.args.totals.now.paragraphs fits.counted (sym c.is_complete.ensures ∙ c.if-is_complete.false) fits.passed fits.paragraphs last (shown_by_answer text _ (state_of c.advance.new.self) c.in_ok-advance.field-0 last (judged text fits.passed fits.fits)))

pub returns-in-Some-clause-lines : goal.returns-in-Some-clause-lines
returns-in-Some-clause-lines g c = λ shown kept text answered fits.
    let judged = without_error _ _ c.requires.sound c.in_ok-advance.ensures.judged in
    let last = judged_last c.advance.new.self in
    of_refusal c.pass.result _ (lines_are c.args.doc text answered c.args.totals.now.paragraphs fits.counted (sym c.is_complete.ensures ∙ c.if-is_complete.false) fits.passed fits.paragraphs last (shown_by_answer text _ (state_of c.advance.new.self) c.in_ok-advance.field-0 last (judged text fits.passed fits.fits)))

pub returns-in-Some-clause-lines_found : goal.returns-in-Some-clause-lines_found
returns-in-Some-clause-lines_found g c = λ shown kept text answered fits.
    let judged = without_error _ _ c.requires.sound c.in_ok-advance.ensures.judged in
    let last = judged_last c.advance.new.self in
    of_ok c.pass.result _ (lines_are c.args.doc text answered c.args.totals.now.paragraphs fits.counted (sym c.is_complete.ensures ∙ c.if-is_complete.false) fits.passed fits.paragraphs last (shown_by_answer text _ (state_of c.advance.new.self) c.in_ok-advance.field-0 last (judged text fits.passed fits.fits)))

pub returns-then-is_complete-clause-refused : goal.returns-then-is_complete-clause-refused
returns-then-is_complete-clause-refused g c = λ shown shown_now kept kept_now text answered fits.
    any_error c.none_follows.result (λ fault. if_error _ (judged_last c.none_follows.new.paragraphs) c.none_follows.ensures.unjudged)

pub returns-in_err-advance-clause-refused : goal.returns-in_err-advance-clause-refused
returns-in_err-advance-clause-refused g c = λ shown shown_now kept kept_now text answered fits.
    let passed = without_error _ _ c.requires.sound c.in_err-advance.ensures.judged_passed in
    fits_refused c.args.doc _ _ _ c.from_residual.result text answered (returns-in_err-advance-clause-checks g c shown shown_now kept kept_now) fits (judged_last c.advance.new.self) (any_error c.from_residual.result (λ fault. refl)) (passed text fits.passed fits.fits)

pub returns-in-None-clause-refused : goal.returns-in-None-clause-refused
returns-in-None-clause-refused g c = λ shown shown_now kept kept_now text answered fits.
    let passed = without_error _ _ c.requires.sound c.in_ok-advance.ensures.judged_passed in
    fits_refused c.args.doc _ _ _ c.end.result text answered (returns-in-None-clause-checks g c shown shown_now kept kept_now) fits (judged_last c.advance.new.self) (any_error c.end.result (λ fault. refl)) (passed text fits.passed fits.fits)

pub returns-in-Some-clause-refused : goal.returns-in-Some-clause-refused
returns-in-Some-clause-refused g c = λ shown shown_now kept kept_now text answered fits.
    let passed = without_error _ _ c.requires.sound c.in_ok-advance.ensures.judged_passed in
    fits_refused c.args.doc _ _ _ c.pass.result text answered (returns-in-Some-clause-checks g c shown shown_now kept kept_now) fits (judged_last c.advance.new.self) (unchanged_error c.pass.result (ap (λ t. t.bytes)) c.pass.ensures.unchanged) (passed text fits.passed fits.fits)

pub returns-in_err-advance-clause-inside : goal.returns-in_err-advance-clause-inside
returns-in_err-advance-clause-inside g c =
    let p = err_from_is_err_and c.from_residual.result c.from_residual.ensures.1 in
    rw (p.1, p.2) (is_inside-same c.in_err-advance.field-0.0 _ (without_error _ _ c.requires.sound c.in_err-advance.ensures.passes.keeps))

pub returns-in-None-clause-inside : goal.returns-in-None-clause-inside
returns-in-None-clause-inside g c = error_inside c.end.result _ (found_sound _ (state_of c.advance.new.self) c.in_ok-advance.field-0 c.requires.sound c.in_ok-advance.ensures.passes.keeps)

pub returns-in-Some-clause-inside : goal.returns-in-Some-clause-inside
returns-in-Some-clause-inside g c = error_inside c.pass.result _ (found_sound _ (state_of c.advance.new.self) c.in_ok-advance.field-0 c.requires.sound c.in_ok-advance.ensures.passes.keeps)
