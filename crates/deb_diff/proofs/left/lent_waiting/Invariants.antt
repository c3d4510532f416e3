use Rattle.std.proofs.Common.{◌≡◌, map, take}
use Rattle.deb_diff.specs.Pools.{pick}
use Rattle.deb_diff.proofs.left.lent_waiting.Given as goal

abbrev pub invariant-loop-number : goal.invariant-loop-number
invariant-loop-number l = l.left.items ≡ map (λ e. e.1) (pick 0 (take l.number l.kept) l.waits)
