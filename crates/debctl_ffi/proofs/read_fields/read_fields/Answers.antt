use Rattle.std.proofs.Common.{◌≡◌, ℕ, ◌+◌, ◌++◌, Some, ◌∙◌, subst}
use Rattle.std.proofs.lemmas.Result.{err_from_is_err_and}
use Rattle.deb_control.specs.CheckedStates.{passing_judged}
use Rattle.deb_control.specs.Checking.{passing_seen}
use Rattle.deb_control.proofs.ShownSoFar.{shows-end, shows-failures, shows-fault, shows-next, shows-none, shows-paragraphs, shows-quiet, shows-refusal, shows-refused}
use Rattle.debctl_ffi.specs.Fields.{numbered}
use Rattle.debctl_ffi.specs.Tables.{HasTables}
use Rattle.debctl_ffi.proofs.FieldsSoFar.{all_shown, one_shown, shown_refused}
use Rattle.debctl_ffi.proofs.read_fields.read_fields.Goals as goal

pub loop-count-init : goal.loop-count-init
loop-count-init g c = shows-none _ c.requires.empty c.new-checked.ensures.doc c.new-checked.ensures.sound c.new-checked.ensures.none c.new-checked.ensures.fits

pub returns-in_err-advance-clause-refused : goal.returns-in_err-advance-clause-refused
returns-in_err-advance-clause-refused g c = λ text told.
    let p = err_from_is_err_and c.from_residual.result c.from_residual.ensures.1 in
    let so_far = c.loop-count.invariant in
    rw (p.1, p.2) (shows-refusal so_far ℕ c.in_err-advance.field-0.0 c.in_err-advance.ensures.passes.checks text told)

pub returns-in_err-advance-clause-shown_before : goal.returns-in_err-advance-clause-shown_before
returns-in_err-advance-clause-shown_before g c = λ text told.
    let p = err_from_is_err_and c.from_residual.result c.from_residual.ensures.1 in
    rw (p.1, p.2) (shown_refused _ text c.loop-count.invariant.given _ c.loop-count.invariant.holds c.in_err-advance.field-0.0 (shows-refused c.loop-count.invariant ℕ c.in_err-advance.field-0.0 c.in_err-advance.ensures.passes.checks text told))

pub returns-in_err-advance-clause-fault : goal.returns-in_err-advance-clause-fault
returns-in_err-advance-clause-fault g c =
    let p = err_from_is_err_and c.from_residual.result c.from_residual.ensures.1 in
    rw (p.1, p.2) (shows-fault c.loop-count.invariant ℕ c.in_err-advance.field-0.0 c.in_err-advance.ensures.passes.checks)

pub returns-in_err-advance-clause-counts_read_failure : goal.returns-in_err-advance-clause-counts_read_failure
returns-in_err-advance-clause-counts_read_failure g c =
    let p = err_from_is_err_and c.from_residual.result c.from_residual.ensures.1 in
    rw (p.1, p.2) (shows-failures c.loop-count.invariant ℕ c.in_err-advance.field-0.0 c.in_err-advance.ensures.passes.checks)

pub returns-then-not-branch-clause-ok : goal.returns-then-not-branch-clause-ok
returns-then-not-branch-clause-ok g c = shows-paragraphs c.loop-count.invariant (rw c.if-not-branch.true at c.in_ok-advance.ensures.passes.checks)

pub returns-then-not-branch-clause-shown : goal.returns-then-not-branch-clause-shown
returns-then-not-branch-clause-shown g c = λ text told.
    all_shown _ text c.loop-count.invariant.given _ c.loop-count.invariant.holds (shows-end c.loop-count.invariant (rw c.if-not-branch.true at c.in_ok-advance.ensures.passes.checks) text told)

pub returns-then-not-branch-clause-counts_read_failure : goal.returns-then-not-branch-clause-counts_read_failure
returns-then-not-branch-clause-counts_read_failure g c = shows-quiet c.loop-count.invariant (rw c.if-not-branch.true at c.in_ok-advance.ensures.passes.checks)

pub loop-count-preserved : goal.loop-count-preserved
loop-count-preserved g c =
    let so_far = c.loop-count.invariant in
    let given = c.in_ok-advance.ensures.passes.given in
    let current = rw c.if-not-branch.false at c.in_ok-advance.ensures.passes.current in
    let seen : Some (passing_judged c.in-Some.paragraph).seen ≡ Some given = c.in-Some.ensures.seen ∙ current in
    let same : (passing_judged c.in-Some.paragraph).seen ≡ given = cc in
    shows-next so_far (passing_seen _ given) (rw c.if-not-branch.false at c.in_ok-advance.ensures.passes.checks) c.in_ok-advance.ensures.doc
    (one_shown c.loop-count.tables c.push.new.self so_far.given given c.loop-count.count so_far.numbered so_far.holds (λ shown has. subst (λ s. HasTables c.push.new.self (shown ++ numbered (c.loop-count.count + 1) s.fields)) same (c.in_ok-push.ensures shown has)))
