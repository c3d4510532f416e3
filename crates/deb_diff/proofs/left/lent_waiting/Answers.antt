-- One paragraph more.
use Rattle.std.proofs.Common.{◌++◌, [], ◌∷◌, true, ap, ◌∙◌}
use Rattle.deb_diff.proofs.Picked.{picked-more, picked-same}
use Rattle.deb_diff.proofs.left.lent_waiting.Goals as goal
use Rattle.deb_diff.proofs.left.lent_waiting.Goals.{then-waits-number+in_ok-push, else-waits-number}

pub loop-number-preserved : goal.loop-number-preserved
loop-number-preserved c =
    elim c.if-waits-number.branch [
      | then-waits-number+in_ok-push w ↦
          picked-more c.args.kept.now c.args.waits.now c.loop-number.number c.index-kept-number.result c.loop-number-test.true c.requires true (w.if-waits-number.true) c.loop-number.left.items c.if-waits-number.left.items c.loop-number.invariant
          (ap (λ v. v.items) w.left-is ∙ w.in_ok-push.ensures.items ∙ ap (λ x. c.loop-number.left.items ++ x ∷ []) c.index-kept-number.is)
      | else-waits-number w ↦
          picked-same c.args.kept.now c.args.waits.now c.loop-number.number c.loop-number-test.true c.requires (w.if-waits-number.false) c.loop-number.left.items c.if-waits-number.left.items c.loop-number.invariant
          (ap (λ v. v.items) w.left-is)
    ]
