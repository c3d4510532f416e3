-- One file more is counted.
use Rattle.std.proofs.Common.{rules}
use Rattle.deb_relation.specs.Views.{names_of}
use Rattle.deb_index.proofs.LeftOut.{counted_next}
use Rattle.deb_index.proofs.store.Store.counts_left.Goals as goal

pub loop-count-preserved : goal.loop-count-preserved
loop-count-preserved c =
    let store = c.args.self.now in
    let files = c.deref-count-items.ensures.value in
    counted_next (names_of c.args.names.now) store.bytes.items store.entries.items store.files.items c.loop-count.count-index _ c.loop-count.counts.items _ _ c.loop-count.rest.now _ _
    (rw files at c.loop-count-test.true) (rw files at c.cut.ensures.first) (rw files at c.cut.ensures.rest) (search rules) c.loop-count.invariant
