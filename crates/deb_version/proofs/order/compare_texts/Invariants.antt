-- The texts compare as what is left of them from the offset on.
use Rattle.deb_version.proofs.Common.{◌≡◌, drop, map, nat_cmp, continued_cmp, end_rank, rank_of, text_cmp}
use Rattle.deb_version.proofs.order.compare_texts.Given as goal

abbrev pub invariant-loop-place : goal.invariant-loop-place
invariant-loop-place l = text_cmp l.a l.b ≡ continued_cmp nat_cmp end_rank (drop l.place (map rank_of l.a)) (drop l.place (map rank_of l.b))
