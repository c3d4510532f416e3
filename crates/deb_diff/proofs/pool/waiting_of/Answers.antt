-- One element more.
use Rattle.std.proofs.Common.{[], true, false, ap, ◌∙◌}
use Rattle.deb_diff.specs.Waiting.{numbers_under}
use Rattle.deb_diff.proofs.Picked.{numbers-more}
use Rattle.deb_diff.proofs.pool.waiting_of.Goals as goal
use Rattle.deb_diff.proofs.pool.waiting_of.Goals.{then-waits-number+in_ok-push, else-waits-number}

pub loop-number-preserved : goal.loop-number-preserved
loop-number-preserved c = λ key.
    elim c.if-waits-number.branch [
      | then-waits-number+in_ok-push w ↦
          numbers-more c.args.keys.now c.args.waits.now c.loop-number.number _ c.loop-number-test.true c.requires true (w.if-waits-number.true) (numbers_under c.loop-number.waiting key) (numbers_under c.if-waits-number.waiting key) key (c.loop-number.invariant key)
          (ap (λ v. numbers_under v key) w.waiting-is ∙ w.in_ok-push.ensures key)
      | else-waits-number w ↦
          numbers-more c.args.keys.now c.args.waits.now c.loop-number.number (record { ref_ptr = (0, 0); now = [] }) c.loop-number-test.true c.requires false (w.if-waits-number.false) (numbers_under c.loop-number.waiting key) (numbers_under c.if-waits-number.waiting key) key (c.loop-number.invariant key)
          (ap (λ v. numbers_under v key) w.waiting-is)
    ]
