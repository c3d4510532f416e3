use Rattle.std.proofs.Common.{◌≡◌, ℕ, List, None, Some}
use Rattle.deb_syntax.specs.Paragraphs.{state_of}
use Rattle.deb_latest.proofs.PassedTexts.{PassedOn}
use Rattle.deb_latest.proofs.winners.Winners.write.Given as goal

abbrev pub invariant-loop : goal.invariant-loop
invariant-loop g l = record {
  sound : (state_of l.paragraphs).fault ≡ None;
  passed : (text : List ℕ) → g.R.Source.left l.initial.reader ≡ Some text → PassedOn text l.initial.self l.self (g.W.Sink.held l.initial.writer) (g.W.Sink.held l.writer) (state_of l.paragraphs) (g.R.Source.left l.reader);
  reads : g.R.Source.failures l.reader ≡ g.R.Source.failures l.initial.reader;
  writes : g.W.Sink.failures l.writer ≡ g.W.Sink.failures l.initial.writer;
}
