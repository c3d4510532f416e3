-- The partners of the keys so far.
use Rattle.std.proofs.Common.{◌≡◌, ℕ, List, length, map, take}
use Rattle.deb_diff.specs.Items.{Item}
use Rattle.deb_diff.specs.Partners.{Pairs}
use Rattle.deb_diff.specs.Pools.{IsPoolOf}
use Rattle.deb_diff.proofs.partners.partners.Given as goal

abbrev pub invariant-loop-key : goal.invariant-loop-key
invariant-loop-key l = record {
  pairs : (items : List Item) (key : Item → List ℕ) → IsPoolOf (map key items) l.fn.pool → Pairs items key (map (λ k. k.now) (take l.key-index l.keys)) l.fn.pool l.found.items l.pool;
  found : length l.found.items ≡ l.key-index;
  waits : length l.pool.waits.items ≡ length l.fn.pool.waits.items;
}
