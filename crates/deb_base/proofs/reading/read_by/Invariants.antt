-- What was read so far is what the source has no longer.
use Rattle.std.proofs.Common.{◌≡◌, ◌+◌, ◌-◌, ◌<◌, ◌≤◌, ℕ, List, Some, length}
use Rattle.std.specs.Io.KnownBytes.{Consumes}
use Rattle.deb_base.specs.Reading.{TakesNoMore}
use Rattle.deb_base.proofs.reading.read_by.Given as goal

abbrev pub invariant-loop-piece : goal.invariant-loop-piece
invariant-loop-piece g l = record {
  room : 0 < length l.piece;
  small : length l.piece ≤ 65536;
  bytes : Consumes (g.R.Source.left l.initial.source) (g.R.Source.left l.source) l.text.items;
  taken : (text : List ℕ) → g.R.Source.left l.initial.source ≡ Some text → TakesNoMore text l.initial.most (g.R.Source.left l.source);
  counted : g.R.Source.failures l.source ≡ g.R.Source.failures l.initial.source;
}

abbrev pub decreases-loop-piece : goal.decreases-loop-piece
decreases-loop-piece g l = l.initial.most + 1 - length l.text.items
