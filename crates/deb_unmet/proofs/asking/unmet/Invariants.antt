use Rattle.std.proofs.Common.{◌≡◌}
use Rattle.deb_control.specs.ReadingOn.{shown}
use Rattle.deb_control.proofs.ShownSoFar.{ShownSoFar}
use Rattle.deb_relation.specs.Environments.{environment_of}
use Rattle.deb_unmet.specs.Asked.{doc_of}
use Rattle.deb_unmet.specs.Asking.{asks_of}
use Rattle.deb_unmet.specs.Scopes.{scope_of}
use Rattle.deb_unmet.proofs.AskedFiles.{HasAsked}
use Rattle.deb_unmet.proofs.asking.unmet.Given as goal

abbrev pub invariant-loop-count : goal.invariant-loop-count
invariant-loop-count g l = record {
  shown : ShownSoFar (doc_of l.fn.request.asked) (shown (g.R.Source.left l.initial.reader) (g.R.Source.failures l.initial.reader)) (HasAsked (asks_of l.fn.request (environment_of l.fn.question.environment.now) (scope_of l.fn.question)) (g.W.Sink.held l.initial.writer) (g.W.Sink.held l.writer) l.is_empty) l.checked (shown (g.R.Source.left l.reader) (g.R.Source.failures l.reader)) l.count;
  writes : g.W.Sink.failures l.writer ≡ g.W.Sink.failures l.initial.writer;
}
