use Rattle.std.proofs.Common.{◌≡◌, map, take}
use Rattle.deb_diff.specs.Pools.{pick}
use Rattle.deb_diff.proofs.left.waiting.Given as goal

abbrev pub invariant-loop-number : goal.invariant-loop-number
invariant-loop-number l = map (λ k. k.now) l.left.items ≡ map (λ e. e.1) (pick 0 (take l.number l.kept) l.waits)
