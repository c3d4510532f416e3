-- What became of those so far.
use Rattle.std.proofs.Common.{◌≡◌, ℕ, length, List, map, drop}
use Rattle.deb_diff.specs.Items.{Item}
use Rattle.deb_diff.specs.Pools.{IsPoolOf}
use Rattle.deb_diff.proofs.Walked.{SoFar}
use Rattle.deb_diff.proofs.became.all_became.Given as goal

abbrev pub invariant-loop-number : goal.invariant-loop-number
invariant-loop-number l = record {
  becomes : (items : List Item) (key : Item → List ℕ) → IsPoolOf (map key items) l.fn.pool → SoFar items key l.partners (map (λ k. k.now) l.keys) l.fn.pool l.made.items (drop l.number l.partners) (map (λ k. k.now) (drop l.number l.keys)) l.pool;
  made : length l.made.items ≡ l.number;
  waits : length l.pool.waits.items ≡ length l.fn.pool.waits.items;
}
