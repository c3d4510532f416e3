use Rattle.deb_relation.specs.Views.{items_of}
use Rattle.deb_relation.proofs.ListOrder.{profiles_read}
use Rattle.deb_relation.proofs.formula.next_restrictions.Goals as goal

pub invariant_of-result : goal.invariant_of-result
invariant_of-result c = record { profiles = profiles_read _ (items_of c.in_ok-items.items.items) c.in_ok-items.rest.now c.in_ok-items.ensures }
