use Rattle.std.proofs.Common.{◌≡◌, map, take}
use Rattle.deb_diff.proofs.left.lent.Given as goal

abbrev pub invariant-loop-key : goal.invariant-loop-key
invariant-loop-key l = map (λ k. k.now) l.lent.items ≡ map (λ k. k.items) (take l.key-index l.keys)
