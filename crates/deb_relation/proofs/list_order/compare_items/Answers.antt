use Rattle.std.proofs.Common.{ap, ◌∙◌}
use Rattle.std.specs.Ordering.{ordering_reverse}
use Rattle.deb_relation.proofs.ListOrder.{turned}
use Rattle.deb_relation.proofs.list_order.compare_items.Goals as goal

pub returns-in-false-true : goal.returns-in-false-true
returns-in-false-true c = rw (c.in-false-true.is-0, c.in-false-true.is-1) (c.reverse.ensures ∙ ap ordering_reverse c.compare_marked-in-false-true.ensures ∙ turned c.args.b.1.now c.args.b_end c.args.a.1.now c.args.a_end)
