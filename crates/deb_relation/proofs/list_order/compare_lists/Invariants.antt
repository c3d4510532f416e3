use Rattle.std.proofs.Common.{length}
use Rattle.deb_relation.specs.Formulas.{profiles_of}
use Rattle.deb_relation.specs.Views.{items_of}
use Rattle.deb_relation.proofs.ListOrder.{IsLeft}
use Rattle.deb_relation.proofs.list_order.compare_lists.Given as goal

abbrev pub invariant-loop-left : goal.invariant-loop-left
invariant-loop-left l = IsLeft (profiles_of l.fn.a) (profiles_of l.fn.b) (items_of l.left) (items_of l.right)

abbrev pub decreases-loop-left : goal.decreases-loop-left
decreases-loop-left l = length l.left
