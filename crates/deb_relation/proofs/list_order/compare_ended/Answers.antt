use Rattle.deb_relation.proofs.ListOrder.{ended_front}
use Rattle.deb_relation.proofs.list_order.compare_ended.Goals as goal

pub returns : goal.returns
returns c =
    ended_front c.args.a.now c.args.b.now c.split_at.result.0.now c.split_at.result.1.now c.split_at-2.result.0.now c.split_at-2.result.1.now c.args.a_end c.args.b_end c.min-both.result c.cmp-order.result c.compare_ends.result c.then.result
    c.min-both.ensures c.split_at.ensures.by_index.0 c.split_at-2.ensures.by_index.0 c.split_at.ensures.front_len c.split_at-2.ensures.front_len c.cmp-order.ensures c.compare_ends.ensures c.then.ensures
