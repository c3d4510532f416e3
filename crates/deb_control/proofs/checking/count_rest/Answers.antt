use Rattle.deb_base.specs.Bodies.{file_limit}
use Rattle.deb_control.proofs.Common.{◌∙◌, ◌+◌, None, Some, all_pass, ap, arith, err_from_is_err_and}
use Rattle.deb_control.proofs.CheckedSoFar.{goes_on, all_checked, count_all}
use Rattle.deb_control.proofs.Checks.{few-totals}
use Rattle.deb_control.proofs.ReadingOn.{reads-none, reads-ok, reads-err}
use Rattle.deb_control.proofs.checking.count_rest.Goals as goal

pub loop-count-init : goal.loop-count-init
loop-count-init g c = record { reads = reads-none _ _ c.requires.sound; count = omega arith }

pub returns-in_err-advance-clause-on : goal.returns-in_err-advance-clause-on
returns-in_err-advance-clause-on g c =
    let p = err_from_is_err_and c.from_residual.result c.from_residual.ensures.1 in
    rw (p.1, p.2) (reads-err _ _ _ _ _ _ c.loop-count.invariant.reads c.in_err-advance.field-0.0 c.in_err-advance.ensures.passes.checks)

pub returns-then-not-branch-clause-ok : goal.returns-then-not-branch-clause-ok
returns-then-not-branch-clause-ok g c = λ text before fits.
    let reads = c.loop-count.invariant.reads in
    let so_far = (reads.files text (record { before = before; fits = fits })).given in
    let goes = goes_on _ _ _ _ reads.sound (rw (c.if-not-branch.true, reads.doc) at c.in_ok-advance.ensures.passes.checks) in
    all_checked _ text _ _ _ _ _ so_far (c.loop-count.invariant.count ∙ ap (λ n. n + c.loop-count.count) (count_all before fits)) (goes.answers text (all_pass so_far.before) so_far.fits)

pub returns-then-not-branch-clause-on : goal.returns-then-not-branch-clause-on
returns-then-not-branch-clause-on g c =
    reads-ok _ _ _ _ _ _ c.loop-count.invariant.reads c.loop-count.count None (rw c.if-not-branch.true at c.in_ok-advance.ensures.passes.checks) c.in_ok-advance.ensures.doc

pub loop-count-preserved : goal.loop-count-preserved
loop-count-preserved g c =
    let reads = c.loop-count.invariant.reads in
    let checks = rw c.if-not-branch.false at c.in_ok-advance.ensures.passes.checks in
    record {
      reads = reads-ok _ _ _ _ _ _ reads tt (Some _) checks c.in_ok-advance.ensures.doc;
      count = omega (arith, (goes_on _ _ _ _ reads.sound checks).count, c.loop-count.invariant.count);
    }

pub unreachable-requires : goal.unreachable-requires
unfolding file_limit
unreachable-requires g c = omega (arith, c.loop-count-test.false, c.loop-count.invariant.count, few-totals c.loop-count.checked.totals)
