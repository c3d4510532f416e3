-- The line of one paragraph more.
use Rattle.std.proofs.Common.{◌+◌, ◌∷◌, drop, sym, ap, ◌∙◌, arith}
use Rattle.std.proofs.lemmas.List.{drop_more}
use Rattle.deb_diff.specs.Lines.{fate_text}
use Rattle.deb_diff.proofs.Fating.{fates_more}
use Rattle.deb_diff.proofs.fates.append_fates.Goals as goal

pub loop-number-preserved : goal.loop-number-preserved
loop-number-preserved c = λ fates are.
    let n = c.loop-number.number in
    let k = c.index-old-number.result in
    fates_more (fate_text c.args.form) (drop n c.args.old.now) (drop (n + 1) c.args.old.now) k (drop n c.args.became.now) (drop (n + 1) c.args.became.now) _ c.args.new.now c.args.out.now.items c.loop-number.out.items c.append_fate.new.out.items fates
    (drop_more c.args.old.now n k c.loop-number-test.true ∙ ap (λ x. x ∷ drop (n + 1) c.args.old.now) (sym c.index-old-number.is))
    (drop_more c.args.became.now n _ (omega (arith, c.requires, c.loop-number-test.true)))
    (λ fate is. c.in_ok-append_fate.ensures fate is) (c.loop-number.invariant fates are)
