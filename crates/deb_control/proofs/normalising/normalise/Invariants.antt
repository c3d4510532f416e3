use Rattle.deb_control.proofs.Common.{◌≡◌, Appends, shown}
use Rattle.deb_control.proofs.ShownSoFar.{ShownSoFar}
use Rattle.deb_control.proofs.WrittenSoFar.{text_given}
use Rattle.deb_control.proofs.normalising.normalise.Given as goal

abbrev pub invariant-loop-count : goal.invariant-loop-count
invariant-loop-count g l = record {
  shown : ShownSoFar l.fn.doc (shown (g.R.Source.left l.initial.reader) (g.R.Source.failures l.initial.reader)) (λ given. Appends (g.W.Sink.held l.initial.writer) (g.W.Sink.held l.writer) (text_given l.fn.doc given)) l.checked (shown (g.R.Source.left l.reader) (g.R.Source.failures l.reader)) l.count;
  writes : g.W.Sink.failures l.writer ≡ g.W.Sink.failures l.initial.writer;
}
