use Rattle.deb_syntax.proofs.Common.{◌≡◌, ◌+◌, IsTrue, cursor_state, had}
use Rattle.deb_syntax.proofs.NextLines.{Scanned}
use Rattle.deb_syntax.proofs.Takings.{still}
use Rattle.deb_syntax.proofs.line.next_line.Given as goal

-- no newline has come so far, and no read has failed
abbrev pub invariant-pieces : goal.invariant-pieces
invariant-pieces g l = record {
  scanned : Scanned l.fn.kept (cursor_state l.fn.cursor) (g.R.Source.left l.fn.reader) l.dropped l.seen (cursor_state l.cursor) (g.R.Source.left l.reader);
  counted : g.R.Source.failures l.reader ≡ g.R.Source.failures l.fn.reader;
  quiet : IsTrue (cursor_state l.fn.cursor).ended → l.reader ≡ l.fn.reader;
}

abbrev pub decreases-pieces : goal.decreases-pieces
decreases-pieces g l = still (had (cursor_state l.cursor) + l.dropped.len) (cursor_state l.cursor).ended
