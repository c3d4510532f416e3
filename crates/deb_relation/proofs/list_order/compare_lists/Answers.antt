use Rattle.std.proofs.Common.{rules, inl, inr, sym, ◌∙◌}
use Rattle.deb_relation.specs.Formulas.{profiles_of}
use Rattle.deb_relation.proofs.ListOrder.{cut-decided, cut-more, left-all, left-none}
use Rattle.deb_relation.proofs.list_order.compare_lists.Goals.{in_default, in_default-2}
use Rattle.deb_relation.proofs.list_order.compare_lists.Goals as goal

pub loop-left-init : goal.loop-left-init
loop-left-init c = rw (c.deref-left.ensures.value, c.deref-right.ensures.value) (left-all (profiles_of c.args.a.now) (profiles_of c.args.b.now) c.args.a.now.profiles c.args.b.now.profiles)

pub returns-then-is_ne : goal.returns-then-is_ne
returns-then-is_ne c =
    cut-decided (profiles_of c.args.a.now) (profiles_of c.args.b.now) c.loop-left.left.now c.loop-left.right.now c.loop-left.invariant _ (search rules) (search rules) c.end_before.result c.end_before-in-len1-up-len1-up.result c.compare_items-order.result c.end_before.ensures c.end_before-in-len1-up-len1-up.ensures c.compare_items-order.ensures (sym c.is_ne.ensures ∙ c.if-is_ne.true)

pub loop-left-preserved : goal.loop-left-preserved
loop-left-preserved c =
    cut-more (profiles_of c.args.a.now) (profiles_of c.args.b.now) c.loop-left.left.now c.loop-left.right.now c.loop-left.invariant _ (search rules) (search rules) c.end_before.result c.end_before-in-len1-up-len1-up.result c.compare_items-order.result c.end_before.ensures c.end_before-in-len1-up-len1-up.ensures c.compare_items-order.ensures (sym c.is_ne.ensures ∙ c.if-is_ne.false)

pub returns : goal.returns
returns c =
    c.cmp.ensures ∙ left-none (profiles_of c.args.a.now) (profiles_of c.args.b.now) c.loop-left.left.now c.loop-left.right.now c.loop-left.invariant (elim c.if-left-lt1.branch [ in_default w ↦ inl w.in_default.len_below | in_default-2 w ↦ inr (search rules) ])
