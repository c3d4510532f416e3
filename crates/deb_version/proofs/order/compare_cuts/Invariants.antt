-- The components compare as what is left of them.
use Rattle.deb_version.proofs.Common.{◌≡◌, ◌+◌, length, component_cmp, parts_of}
use Rattle.deb_version.proofs.order.compare_cuts.Given as goal

abbrev pub invariant-loop-after_a : goal.invariant-loop-after_a
invariant-loop-after_a l = component_cmp (parts_of l.a) (parts_of l.b) ≡ component_cmp (parts_of l.rest_a) (parts_of l.rest_b)

abbrev pub decreases-loop-after_a : goal.decreases-loop-after_a
decreases-loop-after_a l = length l.rest_a + length l.rest_b
