use Rattle.std.proofs.Common.{sym, ◌∙◌}
use Rattle.deb_solve.proofs.Verdicts.{AreTrue-same, AreVerdicts-after, AreVerdicts-undecided}
use Rattle.deb_solve.proofs.verdict.solve.Goals as goal

pub loop-number-init : goal.loop-number-init
loop-number-init c = (
  AreVerdicts-undecided c.args.universe.now c.len.result c.in_ok-verdicts.verdicts.items (c.in_ok-verdicts.ensures.items_if_clones_equal (λ y same. same)) c.len.ensures,
  c.prune_all.ensures ∙ c.in_ok-known.ensures,
)

pub refuse_all-requires : goal.refuse_all-requires
refuse_all-requires c = AreTrue-same _ _ _ (sym c.loop-number.invariant.1) c.loop-number.invariant.0.are_true

pub returns : goal.returns
returns c =
    AreVerdicts-after _ _ _ c.loop-number.invariant.0 (AreTrue-same _ _ _ c.loop-number.invariant.1 c.refuse_all.ensures.are_true) c.refuse_all.ensures.each
