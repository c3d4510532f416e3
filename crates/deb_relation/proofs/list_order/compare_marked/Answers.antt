use Rattle.std.proofs.Common.{arith}
use Rattle.deb_relation.proofs.ListOrder.{marked_none}
use Rattle.deb_relation.proofs.list_order.compare_marked.Goals as goal

pub returns-in-empty : goal.returns-in-empty
returns-in-empty c = rw (c.then.ensures, c.cmp.ensures) (marked_none c.args.name.now c.args.end c.args.other.now c.args.other_end (omega (arith, c.in-empty.len_below)))
