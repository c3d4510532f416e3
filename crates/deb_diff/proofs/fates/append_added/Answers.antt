-- The line of one paragraph more.
use Rattle.std.proofs.Common.{◌+◌, ◌∷◌, drop, sym, ap, ◌∙◌}
use Rattle.std.proofs.lemmas.List.{drop_more}
use Rattle.deb_diff.specs.Lines.{added_text}
use Rattle.deb_diff.proofs.Fating.{added_more}
use Rattle.deb_diff.proofs.fates.append_added.Goals as goal

pub loop-kept-preserved : goal.loop-kept-preserved
loop-kept-preserved c = λ items are.
    let n = c.loop-kept.kept-index in
    let k = c.kept-item.result in
    added_more (added_text c.args.form) (drop n c.args.added.now) (drop (n + 1) c.args.added.now) k c.args.out.now.items c.loop-kept.out.items c.add.new.out.items items
    (drop_more c.args.added.now n k c.loop-kept-test.true ∙ ap (λ x. x ∷ drop (n + 1) c.args.added.now) (sym c.kept-item.is))
    (λ item is. c.in_ok-add.ensures item is) (c.loop-kept.invariant items are)
