-- One paragraph more.
use Rattle.std.proofs.Common.{◌++◌, [], ◌∷◌, true, map, ap, ◌∙◌}
use Rattle.std.proofs.lemmas.List.{map-append}
use Rattle.deb_diff.proofs.Picked.{picked-more, picked-same}
use Rattle.deb_diff.proofs.left.waiting.Goals as goal
use Rattle.deb_diff.proofs.left.waiting.Goals.{then-waits-number+in_ok-push, else-waits-number}

pub loop-number-preserved : goal.loop-number-preserved
loop-number-preserved c =
    elim c.if-waits-number.branch [
      | then-waits-number+in_ok-push w ↦
          picked-more c.args.kept.now c.args.waits.now c.loop-number.number c.index-kept-number.result c.loop-number-test.true c.requires true (w.if-waits-number.true) (map (λ k. k.now) c.loop-number.left.items) (map (λ k. k.now) c.if-waits-number.left.items) c.loop-number.invariant
          (ap (λ v. map (λ k. k.now) v.items) w.left-is ∙ ap (map (λ k. k.now)) w.in_ok-push.ensures.items ∙ map-append (λ k. k.now) c.loop-number.left.items _ ∙ ap (λ x. map (λ k. k.now) c.loop-number.left.items ++ x ∷ []) c.index-kept-number.is)
      | else-waits-number w ↦
          picked-same c.args.kept.now c.args.waits.now c.loop-number.number c.loop-number-test.true c.requires (w.if-waits-number.false) (map (λ k. k.now) c.loop-number.left.items) (map (λ k. k.now) c.if-waits-number.left.items) c.loop-number.invariant
          (ap (λ v. map (λ k. k.now) v.items) w.left-is)
    ]
