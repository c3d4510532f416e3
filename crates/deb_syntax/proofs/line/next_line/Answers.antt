use Rattle.deb_syntax.proofs.Common.{◌∙◌, ◌-◌, length, drop, true, refl, sym, ap, subst, arith, false≢true, length-take, length-drop, take_rest, cursor_state, IsEnd}
use Rattle.deb_base.specs.Bodies.{paragraph_limit, file_limit}
use Rattle.deb_syntax.proofs.NextLines.{drops_short, failed-takes, line_at_end, line_cut, line_found, reads-takes, scanned-less, scanned-more, scanned-start, seen_short, seen_within}
use Rattle.deb_syntax.proofs.Takings.{takes_none}
use Rattle.deb_syntax.proofs.line.next_line.Goals as goal

pub pieces-init : goal.pieces-init
pieces-init g c = record {
  scanned = scanned-start c.args.kept (cursor_state c.args.cursor.now) (g.R.Source.left c.args.reader.now) _ refl c.requires.within c.requires.room c.requires.near c.requires.reach;
  counted = refl;
  quiet = λ e. refl;
}

pub ended_line-requires-clause-len : goal.ended_line-requires-clause-len
unfolding file_limit
ended_line-requires-clause-len g c =
    let there = c.visible.result.bytes.now in
    let s = scanned-start c.args.kept (cursor_state c.args.cursor.now) (g.R.Source.left c.args.reader.now) (record { len = 0; blank = true }) refl c.requires.within c.requires.room c.requires.near c.requires.reach in
    omega (arith, seen_short _ _ _ _ _ _ _ s _ c.visible.ensures, c.in-Some.ensures.found.after, c.in-Some.ensures.found.within, length-take (c.in-Some.end - c.args.kept) (drop c.args.kept there), length-drop c.args.kept there)

pub returns-in-Some-clause-line : goal.returns-in-Some-clause-line
returns-in-Some-clause-line g c =
    let s = scanned-start c.args.kept (cursor_state c.args.cursor.now) (g.R.Source.left c.args.reader.now) (record { len = 0; blank = true }) refl c.requires.within c.requires.room c.requires.near c.requires.reach in
    line_found _ _ _ _ _ _ _ s _ c.visible.ensures c.in-Some.end _ c.in-Some.ensures.found refl _ (c.ended_line.ensures _ s.describes)

pub returns-in-Some-clause-reads_at_most : goal.returns-in-Some-clause-reads_at_most
returns-in-Some-clause-reads_at_most g c = takes_none _ _ _ c.requires.reach

pub ended_line-requires-in-Some-newline_from-clause-len : goal.ended_line-requires-in-Some-newline_from-clause-len
unfolding file_limit
ended_line-requires-in-Some-newline_from-clause-len g c =
    let seen = c.visible-visible.result.bytes.now in
    let s = c.pieces.invariant.scanned in
    omega (arith, seen_short _ _ _ _ _ _ _ s _ c.visible-visible.ensures, s.low, c.in-Some-newline_from.ensures.found.after, c.in-Some-newline_from.ensures.found.within, length-take (c.in-Some-newline_from.end - c.args.kept) (drop c.args.kept seen), length-drop c.args.kept seen)

pub returns-in-Some-newline_from-clause-line : goal.returns-in-Some-newline_from-clause-line
returns-in-Some-newline_from-clause-line g c =
    let s = c.pieces.invariant.scanned in
    line_found _ _ _ _ _ _ _ s _ c.visible-visible.ensures c.in-Some-newline_from.end _ c.in-Some-newline_from.ensures.found refl _ (c.ended_line-in-Some-newline_from.ensures _ s.describes)

pub returns-in-Some-newline_from-clause-reads_at_most : goal.returns-in-Some-newline_from-clause-reads_at_most
returns-in-Some-newline_from-clause-reads_at_most g c = reads-takes _ _ _ _ _ _ _ c.pieces.invariant.scanned

pub returns-in-Limit-clause-line : goal.returns-in-Limit-clause-line
returns-in-Limit-clause-line g c =
    let tail = subst (IsEnd (cursor_state c.pieces.cursor) c.pieces.dropped.len) c.in-Limit.is c.visible-visible.ensures.tail in
    line_cut _ _ _ _ _ _ _ c.pieces.invariant.scanned _ c.visible-visible.ensures c.in-None.ensures.none tail

pub returns-in-Limit-clause-reads_at_most : goal.returns-in-Limit-clause-reads_at_most
returns-in-Limit-clause-reads_at_most g c = reads-takes _ _ _ _ _ _ _ c.pieces.invariant.scanned

pub ended_line-requires-in-Eof-clause-len : goal.ended_line-requires-in-Eof-clause-len
unfolding file_limit
ended_line-requires-in-Eof-clause-len g c =
    let seen = c.visible-visible.result.bytes.now in
    let s = c.pieces.invariant.scanned in
    omega (arith, seen_short _ _ _ _ _ _ _ s _ c.visible-visible.ensures, s.low, seen_within _ _ _ _ _ _ _ s _ c.visible-visible.ensures, length-take (length seen - c.args.kept) (drop c.args.kept seen), length-drop c.args.kept seen)

pub returns-in-Eof-clause-line : goal.returns-in-Eof-clause-line
returns-in-Eof-clause-line g c =
    let s = c.pieces.invariant.scanned in
    let tail = subst (IsEnd (cursor_state c.pieces.cursor) c.pieces.dropped.len) c.in-Eof.is c.visible-visible.ensures.tail in
    line_at_end _ _ _ _ _ _ _ s _ c.visible-visible.ensures c.in-None.ensures.none tail.0 _ (take_rest c.visible-visible.result.bytes.now c.args.kept) tail.1 _ (c.ended_line-in-Eof.ensures _ s.describes)

pub returns-in-Eof-clause-reads_at_most : goal.returns-in-Eof-clause-reads_at_most
returns-in-Eof-clause-reads_at_most g c = reads-takes _ _ _ _ _ _ _ c.pieces.invariant.scanned

pub drop_long-dropped-requires-clause-len : goal.drop_long-dropped-requires-clause-len
unfolding file_limit
drop_long-dropped-requires-clause-len g c =
    let tail = subst (IsEnd (cursor_state c.pieces.cursor) c.pieces.dropped.len) c.in-More.is c.visible-visible.ensures.tail in
    omega (arith, tail.0, c.pieces.invariant.scanned.room)

pub fill-requires-clause-short : goal.fill-requires-clause-short
unfolding paragraph_limit
fill-requires-clause-short g c =
    let s = c.pieces.invariant.scanned in
    omega (arith, drops_short c.args.kept (cursor_state c.pieces.cursor) (cursor_state c.drop_long-dropped.new.cursor) _ _ (omega (arith, c.requires.short)) (omega (arith, s.low, s.high)) c.drop_long-dropped.ensures)

pub pieces-preserved : goal.pieces-preserved
pieces-preserved g c =
    let s = c.pieces.invariant.scanned in
    let tail = subst (IsEnd (cursor_state c.pieces.cursor) c.pieces.dropped.len) c.in-More.is c.visible-visible.ensures.tail in
    record {
      scanned = scanned-more _ _ _ _ _ _ _ s _ c.visible-visible.ensures c.in-None.ensures.none tail.0 (cursor_state c.drop_long-dropped.new.cursor) (cursor_state c.fill.new.self) _ _ _ tail.1 c.drop_long-dropped.ensures (ap length c.unread-seen.ensures) c.in_ok-fill.ensures.taken;
      counted = c.in_ok-fill.ensures.counted ∙ c.pieces.invariant.counted;
      quiet = λ e. absurd (false≢true (sym tail.1 ∙ s.counts.ended e));
    }

pub pieces-smaller : goal.pieces-smaller
pieces-smaller g c =
    let tail = subst (IsEnd (cursor_state c.pieces.cursor) c.pieces.dropped.len) c.in-More.is c.visible-visible.ensures.tail in
    scanned-less _ _ _ _ _ _ _ c.pieces.invariant.scanned _ c.visible-visible.ensures c.in-None.ensures.none tail.0 (cursor_state c.drop_long-dropped.new.cursor) (cursor_state c.fill.new.self) _ _ tail.1 c.drop_long-dropped.ensures c.in_ok-fill.ensures.taken

pub returns-in_err-fill-clause-reads_at_most : goal.returns-in_err-fill-clause-reads_at_most
returns-in_err-fill-clause-reads_at_most g c = failed-takes _ _ _ _ _ _ _ c.pieces.invariant.scanned _ c.in_err-fill.ensures.failed.kept
