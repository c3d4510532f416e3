-- The paragraphs so far were taken away from the pool, or are kept.
use Rattle.std.proofs.Common.{◌≡◌, List, length, map}
use Rattle.deb_control.specs.ReadingOn.{shown}
use Rattle.deb_control.proofs.ShownSoFar.{ShownSoFar}
use Rattle.deb_diff.specs.Items.{Item, whole}
use Rattle.deb_diff.specs.Kinds.{doc_of}
use Rattle.deb_diff.specs.Pools.{IsPoolOf}
use Rattle.deb_diff.proofs.Sifted.{HasSifted}
use Rattle.deb_diff.proofs.reading.read_others.Given as goal

abbrev pub invariant-loop-count : goal.invariant-loop-count
invariant-loop-count g l = record {
  shown : ShownSoFar (doc_of l.fn.kind) (shown (g.R.Source.left l.initial.reader) (g.R.Source.failures l.initial.reader)) (λ given. (others : List Item) → IsPoolOf (map whole others) l.fn.pool → HasSifted l.fn.kind others l.fn.pool l.pool l.kept.items given) l.checked (shown (g.R.Source.left l.reader) (g.R.Source.failures l.reader)) l.count;
  waits : length l.pool.waits.items ≡ length l.fn.pool.waits.items;
}
