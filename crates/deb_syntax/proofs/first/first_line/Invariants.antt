use Rattle.deb_syntax.proofs.Common.{◌≡◌, ◌+◌, ◌-◌, ◌≤◌, ℕ, List, [], IsTrue, At, IsNear, Skips, cursor_state, file_limit, had, piece_limit, Takes}
use Rattle.deb_syntax.proofs.first.first_line.Given as goal

-- blank lines have passed, no more was taken than one piece too much, and no read has failed
abbrev pub invariant-walk : goal.invariant-walk
invariant-walk g l = record {
  skips : (text : List ℕ) → At text [] (cursor_state l.fn.cursor) (g.R.Source.left l.fn.reader) → Skips text (cursor_state l.fn.cursor) [] (cursor_state l.cursor) (g.R.Source.left l.reader);
  near : IsNear (cursor_state l.cursor).unread;
  reach : had (cursor_state l.cursor) ≤ file_limit + piece_limit;
  takes : Takes (had (cursor_state l.fn.cursor)) (g.R.Source.left l.fn.reader) (had (cursor_state l.cursor)) (g.R.Source.left l.reader);
  counted : g.R.Source.failures l.reader ≡ g.R.Source.failures l.fn.reader;
  quiet : IsTrue (cursor_state l.fn.cursor).ended → IsTrue (cursor_state l.cursor).ended × (l.reader ≡ l.fn.reader);
}

abbrev pub decreases-walk : goal.decreases-walk
decreases-walk g l = file_limit - (cursor_state l.cursor).bytes
