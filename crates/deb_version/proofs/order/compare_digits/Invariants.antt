-- The runs compare as what is left of them from the offset on.
use Rattle.deb_version.proofs.Common.{◌≡◌, drop, nat_cmp, slice_cmp}
use Rattle.deb_version.proofs.order.compare_digits.Given as goal

abbrev pub invariant-loop-place : goal.invariant-loop-place
invariant-loop-place l = slice_cmp nat_cmp l.a l.b ≡ slice_cmp nat_cmp (drop l.place l.a) (drop l.place l.b)
