-- The numbers of the elements so far.
use Rattle.std.proofs.Common.{◌≡◌, ℕ, List, map, take}
use Rattle.deb_diff.specs.Pools.{numbers_of, pick}
use Rattle.deb_diff.specs.Waiting.{numbers_under}
use Rattle.deb_diff.proofs.pool.waiting_of.Given as goal

abbrev pub invariant-loop-number : goal.invariant-loop-number
invariant-loop-number l = (key : List ℕ) → numbers_under l.waiting key ≡ numbers_of key (pick 0 (map (λ k. k.now) (take l.number l.keys)) l.waits)
