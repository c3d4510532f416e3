use Rattle.std.proofs.Common.{◌≡◌, ◌≤◌, ℕ, List}
use Rattle.deb_index.specs.Indexes.{packages_of}
use Rattle.deb_index.specs.Listed.{Listed}
use Rattle.deb_unmet.specs.Own.{asks_after}
use Rattle.deb_unmet.specs.Parts.{AreParts, IsOther, ReadsOver}
use Rattle.deb_unmet.proofs.OwnFiles.{HasOwn}
use Rattle.deb_unmet.proofs.in_itself.write_kept.Given as goal

abbrev pub invariant-loop-count : goal.invariant-loop-count
invariant-loop-count g l = record {
  lines : (before : List Listed) (text : List ℕ) → (reads : ReadsOver (asks_after before (g.L.OwnLines.asks l.lines)) (AreParts (g.L.OwnLines.asks l.lines).members g.L.OwnLines.Holds (IsOther g.L.OwnLines.asks) l.parts) text (packages_of l.index))
      → HasOwn (asks_after before (g.L.OwnLines.asks l.lines)) (packages_of l.index) g.L.OwnLines.Holds (IsOther g.L.OwnLines.asks) l.parts text (g.W.Sink.held l.initial.writer) reads (g.W.Sink.held l.writer) l.is_empty l.count l.members;
  below : l.members ≤ l.count;
  writes : g.W.Sink.failures l.writer ≡ g.W.Sink.failures l.initial.writer;
}
