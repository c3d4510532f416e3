use Rattle.std.proofs.Common.{◌≡◌, ℕ, List, None, Some}
use Rattle.deb_explain.specs.AllExplanations.{seen_block}
use Rattle.deb_control.specs.GivenRefusals.{HasGiven, failure_of}
use Rattle.deb_control.specs.WrittenRefusals.{HasWritten}
use Rattle.deb_explain.proofs.explaining.explain_all.Given as goal

abbrev pub invariant-loop : goal.invariant-loop
invariant-loop g l = record {
  sound : failure_of l.refusals ≡ None;
  reads : g.R.Source.failures l.reader ≡ g.R.Source.failures l.initial.reader;
  writes : g.W.Sink.failures l.writer ≡ g.W.Sink.failures l.initial.writer;
  text : (text : List ℕ) → g.R.Source.left l.initial.reader ≡ Some text → HasWritten (seen_block l.fn.path l.fn.doc) (HasGiven l.fn.doc text l.refusals (g.R.Source.left l.reader)) (g.W.Sink.held l.initial.writer) (g.W.Sink.held l.writer);
}
