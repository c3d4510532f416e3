use Rattle.deb_select.proofs.TableCells.{cell_collected, there_collected}
use Rattle.deb_select.proofs.cells.push_more.Goals as goal

pub loop-name-preserved : goal.loop-name-preserved
loop-name-preserved c = record {
  cells = λ values are.
      cell_collected (λ name. name.items) values c.args.out.now.items c.loop-name.out.items c.push.new.self.items c.push_cell.new.out.items c.args.names.now c.loop-name.name-index c.name-item.result
      c.in_ok-push.ensures.items (rw c.as_slice.ensures.value at (c.in_ok-there.ensures.written values are)) c.loop-name-test.true c.name-item.is (c.loop-name.invariant.cells values are);
  full = λ values are.
      there_collected (λ name. name.items) values c.loop-name.full c.in_ok-there.there c.args.names.now c.loop-name.name-index c.name-item.result
      (rw c.as_slice.ensures.value at (c.in_ok-there.ensures.there values are)) c.loop-name-test.true c.name-item.is (c.loop-name.invariant.full values are);
}
