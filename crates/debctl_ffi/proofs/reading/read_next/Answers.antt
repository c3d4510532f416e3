use Rattle.std.proofs.Common.{◌≡◌, ◌∙◌, ◌+◌, Some}
use Rattle.std.proofs.lemmas.Result.{err_from_is_err_and}
use Rattle.deb_control.specs.CheckedStates.{passing_judged}
use Rattle.deb_control.specs.Checking.{all_pass}
use Rattle.deb_control.proofs.CheckedSoFar.{answers_on, goes_on, sound_on}
use Rattle.debctl_ffi.proofs.Readings.{reads-all, reads-end, reads-one, refuses, count_more}
use Rattle.debctl_ffi.proofs.reading.read_next.Goals as goal

pub returns-in_err-advance-clause-refused : goal.returns-in_err-advance-clause-refused
returns-in_err-advance-clause-refused g c = λ text given fresh reading.
    let p = err_from_is_err_and c.from_residual.result c.from_residual.ensures.1 in
    rw (p.1, p.2) (refuses _ text given fresh _ _ _ _ _ _ reading c.in_err-advance.field-0.0 (answers_on reading.read.checked reading.sound c.in_err-advance.ensures.passes.checks))

pub returns-then-not-branch-clause-reads : goal.returns-then-not-branch-clause-reads
returns-then-not-branch-clause-reads g c = λ text given fresh reading.
    let passes = rw c.if-not-branch.true at c.in_ok-advance.ensures.passes.checks in
    let end = answers_on reading.read.checked reading.sound passes in
    record {
      next = λ e. absurd (cc);
      none = λ e. (reads-end _ text given fresh _ _ _ _ _ _ reading (sound_on _ _ _ _ reading.sound passes) end, reads-all _ text given fresh _ _ _ _ _ _ reading end);
    }

pub returns-clause-reads : goal.returns-clause-reads
returns-clause-reads g c = λ text given fresh reading.
    let passes = rw c.if-not-branch.false at c.in_ok-advance.ensures.passes.checks in
    let checks = goes_on _ _ _ _ reading.sound passes in
    let current = rw c.if-not-branch.false at c.in_ok-advance.ensures.passes.current in
    let given_now = c.in_ok-advance.ensures.passes.given in
    let seen : Some (passing_judged c.in-Some.paragraph).seen ≡ Some given_now = c.in-Some.ensures.seen ∙ current in
    let same : (passing_judged c.in-Some.paragraph).seen ≡ given_now = cc in
    let number : c.saturating_add-number.result ≡ c.args.count.now + 1 = c.saturating_add-number.ensures ∙ count_more _ _ _ _ _ _ _ _ reading checks in
    record {
      next = λ e. (
        given_now,
        rw number (reads-one _ text given fresh _ _ _ _ _ _ reading _ _ (sound_on _ _ _ _ reading.sound passes) (checks.answers text (all_pass reading.read.checked.before) reading.read.checked.fits)
            (λ shown has. rw (← same, ← number) (c.in_ok-push.ensures shown has))),
      );
      none = λ e. absurd (cc);
    }
