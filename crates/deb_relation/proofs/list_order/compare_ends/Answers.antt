use Rattle.deb_relation.proofs.ListOrder.{ends-cmp}
use Rattle.deb_relation.proofs.list_order.compare_ends.Goals as goal

pub returns : goal.returns
returns c = λ one. rw (c.then.ensures, c.cmp.ensures, c.cmp-2.ensures, c.first_of.ensures, c.first_of-2.ensures) (ends-cmp c.args.a.now c.args.b.now c.args.a_end c.args.b_end one)
