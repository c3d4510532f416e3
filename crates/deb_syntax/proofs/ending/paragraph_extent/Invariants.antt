use Rattle.deb_syntax.proofs.Common.{◌≡◌, ◌-◌, ◌++◌, ◌∷◌, ℕ, List, [], take, IsTrue, At, KeepsLines, SameCounts, cursor_state, had, paragraph_limit, Takes}
use Rattle.deb_syntax.specs.LineEnds.{line_ends}
use Rattle.deb_syntax.proofs.ending.paragraph_extent.Given as goal

-- nothing has passed, these lines are kept, the ends of those before the last are listed, and no read has failed
abbrev pub invariant-walk : goal.invariant-walk
invariant-walk g l = record {
  keeps : KeepsLines l.last l.kept (cursor_state l.cursor);
  ends : l.ends.items ++ l.last ∷ [] ≡ line_ends (take l.kept (cursor_state l.cursor).unread);
  same : SameCounts (cursor_state l.fn.cursor) (cursor_state l.cursor);
  stays : (text : List ℕ) → At text [] (cursor_state l.fn.cursor) (g.R.Source.left l.fn.reader) → At text [] (cursor_state l.cursor) (g.R.Source.left l.reader);
  takes : Takes (had (cursor_state l.fn.cursor)) (g.R.Source.left l.fn.reader) (had (cursor_state l.cursor)) (g.R.Source.left l.reader);
  counted : g.R.Source.failures l.reader ≡ g.R.Source.failures l.fn.reader;
  quiet : IsTrue (cursor_state l.fn.cursor).ended → IsTrue (cursor_state l.cursor).ended × (l.reader ≡ l.fn.reader);
}

abbrev pub decreases-walk : goal.decreases-walk
decreases-walk g l = paragraph_limit - l.kept
