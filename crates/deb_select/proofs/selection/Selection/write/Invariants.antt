use Rattle.std.proofs.Common.{◌≡◌}
use Rattle.deb_control.specs.ReadingOn.{shown}
use Rattle.deb_control.proofs.ShownSoFar.{ShownSoFar}
use Rattle.deb_select.specs.Forms.{form_shown}
use Rattle.deb_select.proofs.Selecting.{SelectedSo}
use Rattle.deb_select.proofs.selection.Selection.write.Given as goal

abbrev pub invariant-loop-passed : goal.invariant-loop-passed
invariant-loop-passed g l = record {
  shows : ShownSoFar l.self.doc (shown (g.R.Source.left l.initial.reader) (g.R.Source.failures l.initial.reader))
      (SelectedSo l.self (form_shown l.form) l.initial.begun (g.R.Source.left l.initial.reader) (g.W.Sink.held l.initial.writer) (g.W.Sink.held l.writer) l.count l.begun l.full) l.checked (shown (g.R.Source.left l.reader) (g.R.Source.failures l.reader)) l._passed;
  writes : g.W.Sink.failures l.writer ≡ g.W.Sink.failures l.initial.writer;
}
