use Rattle.deb_syntax.proofs.Common.{◌≡◌, ◌∙◌, ◌++◌, ◌∷◌, ◌+◌, ℕ, [], Ok, Err, Code, Refused, FileTooLong, ParagraphTooLong, Extent, sym, ap, subst, arith, length, length-append, take, cursor_state, IsNextLine, lines_of, next_answer, passed_count, passed_of}
use Rattle.deb_base.specs.Bodies.{paragraph_limit, file_limit}
use Rattle.deb_syntax.specs.LineEnds.{ends_from}
use Rattle.deb_syntax.proofs.CursorLemmas.{cursor_small}
use Rattle.deb_syntax.proofs.Endings.{ahead_blank, ahead_ended, extent_blank, extent_ended, extent_from, kept_pieces, refused_cut, refused_overlong}
use Rattle.deb_syntax.proofs.LineEnds.{length-ends_from}
use Rattle.deb_syntax.proofs.KeptLines.{keeps_more, keeps_open-line}
use Rattle.deb_syntax.proofs.Positions.{at_more}
use Rattle.deb_syntax.proofs.Takings.{consumes_takes, takes_then}
use Rattle.deb_syntax.proofs.ending.paragraph_extent.Goals.{in-Cut, in-Overlong}
use Rattle.deb_syntax.proofs.ending.paragraph_extent.Goals as goal

pub next_line-requires-clause-short : goal.next_line-requires-clause-short
unfolding paragraph_limit
next_line-requires-clause-short g c = omega (arith, c.walk.invariant.keeps.high, c.walk.invariant.keeps.short)

pub walk-preserved : goal.walk-preserved
walk-preserved g c =
    let before = cursor_state c.walk.cursor in
    let mid = cursor_state c.next_line.new.cursor in
    let left = g.R.Source.left c.walk.reader in
    let left_after = g.R.Source.left c.next_line.new.reader in
    let counts = c.in_ok-end.ensures.counts in
    let keeps = c.walk.invariant.keeps in
    let same = c.walk.invariant.same in
    let line = subst (λ r. IsNextLine c.walk.kept before left r mid left_after) c.in-Whole.is c.in_ok-end.ensures.line in
    let r = line.0 in
    let more = keeps_more c.walk.kept before left mid left_after r (keeps_open-line c.walk.kept before left mid left_after c.walk.last keeps r) c.in-Whole.end c.in-Whole.next keeps.within keeps.not_blank line.1 line.2 line.3 line.4 line.5 counts.bytes in
    record {
      keeps = more.0;
      ends = ap (λ zs. zs ++ c.in-Whole.end ∷ []) (c.in_ok-push.ensures.items ∙ c.walk.invariant.ends) ∙ sym more.1;
      same = record { bytes = counts.bytes ∙ same.bytes; lines = counts.lines ∙ same.lines };
      stays = λ text a. at_more text [] before mid left left_after (c.walk.invariant.stays text a) counts r.came r.consumed line.5;
      takes = takes_then _ _ _ _ _ _ _ _ c.walk.invariant.takes (consumes_takes left left_after r.came r.consumed) (omega (arith, counts.bytes, ap length line.5, length-append before.unread r.came));
      counted = c.in_ok-end.ensures.fault_iff_device_failed ∙ c.walk.invariant.counted;
      quiet = λ e. let q = c.walk.invariant.quiet e in (counts.ended q.0, c.in_ok-end.ensures.source_untouched q.0 ∙ q.1);
    }

pub overflow_add-result : goal.overflow_add-result
unfolding file_limit
overflow_add-result g c =
    let line = subst (λ r. IsNextLine c.walk.kept (cursor_state c.walk.cursor) (g.R.Source.left c.walk.reader) r (cursor_state c.next_line.new.cursor) (g.R.Source.left c.next_line.new.reader)) c.in-Blank.is c.in_ok-end.ensures.line in
    omega (arith, line.3, line.0.room)

pub returns-in-Blank-clause-found : goal.returns-in-Blank-clause-found
returns-in-Blank-clause-found g c =
    let before = cursor_state c.walk.cursor in
    let mid = cursor_state c.next_line.new.cursor in
    let left = g.R.Source.left c.walk.reader in
    let left_after = g.R.Source.left c.next_line.new.reader in
    let line = subst (λ r. IsNextLine c.walk.kept before left r mid left_after) c.in-Blank.is c.in_ok-end.ensures.line in
    let number : c.len.result ≡ length (lines_of (take c.walk.kept before.unread)) = omega (arith, c.len.ensures, c.push.new.self.ok.0, ap length (c.in_ok-push.ensures.items ∙ c.walk.invariant.ends), length-ends_from 0 (lines_of (take c.walk.kept before.unread))) in
    let extent : ℕ → Extent = λ n. record { end = c.walk.last; skip = c.in-Blank.next; bytes = c.walk.kept + c.in-Blank.bytes; lines = n + 1 } in
    extent_blank c.walk.last c.walk.kept before mid left left_after c.walk.invariant.keeps c.in_ok-end.ensures.counts _ _ (extent c.len.result) line (ap extent number)

pub returns-in-Blank-clause-ahead : goal.returns-in-Blank-clause-ahead
returns-in-Blank-clause-ahead g c = λ text a.
    let before = cursor_state c.walk.cursor in
    let mid = cursor_state c.next_line.new.cursor in
    let left = g.R.Source.left c.walk.reader in
    let left_after = g.R.Source.left c.next_line.new.reader in
    let line = subst (λ r. IsNextLine c.walk.kept before left r mid left_after) c.in-Blank.is c.in_ok-end.ensures.line in
    let number : c.len.result ≡ length (lines_of (take c.walk.kept before.unread)) = omega (arith, c.len.ensures, c.push.new.self.ok.0, ap length (c.in_ok-push.ensures.items ∙ c.walk.invariant.ends), length-ends_from 0 (lines_of (take c.walk.kept before.unread))) in
    let extent : ℕ → Extent = λ n. record { end = c.walk.last; skip = c.in-Blank.next; bytes = c.walk.kept + c.in-Blank.bytes; lines = n + 1 } in
    extent_from text (cursor_state c.args.cursor.now) before mid left_after (Ok (extent c.len.result)) c.walk.invariant.same
    (ahead_blank c.walk.last c.walk.kept before mid left left_after c.walk.invariant.keeps c.in_ok-end.ensures.counts text (c.walk.invariant.stays text a) (cursor_small c.walk.cursor) _ _ (extent c.len.result) line (ap extent number))

pub returns-in-Blank-clause-ends : goal.returns-in-Blank-clause-ends
returns-in-Blank-clause-ends g c =
    let before = cursor_state c.walk.cursor in
    let mid = cursor_state c.next_line.new.cursor in
    let left = g.R.Source.left c.walk.reader in
    let left_after = g.R.Source.left c.next_line.new.reader in
    let line = subst (λ r. IsNextLine c.walk.kept before left r mid left_after) c.in-Blank.is c.in_ok-end.ensures.line in
    c.in_ok-push.ensures.items ∙ c.walk.invariant.ends ∙ ap (ends_from 0) (sym (kept_pieces c.walk.last c.walk.kept before mid left left_after c.walk.invariant.keeps c.in_ok-end.ensures.counts line.4.kept_same))

pub returns-in-Ended-clause-found : goal.returns-in-Ended-clause-found
returns-in-Ended-clause-found g c =
    let before = cursor_state c.walk.cursor in
    let mid = cursor_state c.next_line.new.cursor in
    let left = g.R.Source.left c.walk.reader in
    let left_after = g.R.Source.left c.next_line.new.reader in
    let line = subst (λ r. IsNextLine c.walk.kept before left r mid left_after) c.in-Ended.is c.in_ok-end.ensures.line in
    let number : c.len-in-Ended.result ≡ length (lines_of (take c.walk.kept before.unread)) = omega (arith, c.len-in-Ended.ensures, c.push.new.self.ok.0, ap length (c.in_ok-push.ensures.items ∙ c.walk.invariant.ends), length-ends_from 0 (lines_of (take c.walk.kept before.unread))) in
    let extent : ℕ → Extent = λ n. record { end = c.walk.last; skip = c.walk.kept; bytes = c.walk.kept; lines = n } in
    extent_ended c.walk.last c.walk.kept before mid left left_after c.walk.invariant.keeps c.in_ok-end.ensures.counts (extent c.len-in-Ended.result) line (ap extent number)

pub returns-in-Ended-clause-ahead : goal.returns-in-Ended-clause-ahead
returns-in-Ended-clause-ahead g c = λ text a.
    let before = cursor_state c.walk.cursor in
    let mid = cursor_state c.next_line.new.cursor in
    let left = g.R.Source.left c.walk.reader in
    let left_after = g.R.Source.left c.next_line.new.reader in
    let line = subst (λ r. IsNextLine c.walk.kept before left r mid left_after) c.in-Ended.is c.in_ok-end.ensures.line in
    let number : c.len-in-Ended.result ≡ length (lines_of (take c.walk.kept before.unread)) = omega (arith, c.len-in-Ended.ensures, c.push.new.self.ok.0, ap length (c.in_ok-push.ensures.items ∙ c.walk.invariant.ends), length-ends_from 0 (lines_of (take c.walk.kept before.unread))) in
    let extent : ℕ → Extent = λ n. record { end = c.walk.last; skip = c.walk.kept; bytes = c.walk.kept; lines = n } in
    extent_from text (cursor_state c.args.cursor.now) before mid left_after (Ok (extent c.len-in-Ended.result)) c.walk.invariant.same
    (ahead_ended c.walk.last c.walk.kept before mid left left_after c.walk.invariant.keeps c.in_ok-end.ensures.counts text (c.walk.invariant.stays text a) (cursor_small c.walk.cursor) (extent c.len-in-Ended.result) line (ap extent number))

pub returns-clause-ahead : goal.returns-clause-ahead
returns-clause-ahead g c = λ text a.
    let before = cursor_state c.walk.cursor in
    let mid = cursor_state c.next_line.new.cursor in
    let left = g.R.Source.left c.walk.reader in
    let left_after = g.R.Source.left c.next_line.new.reader in
    let counts = c.in_ok-end.ensures.counts in
    let keeps = c.walk.invariant.keeps in
    let at = c.walk.invariant.stays text a in
    let small = cursor_small c.walk.cursor in
    let number : c.len-2.result ≡ length (lines_of (take c.walk.kept before.unread)) = omega (arith, c.len-2.ensures, c.push.new.self.ok.0, ap length (c.in_ok-push.ensures.items ∙ c.walk.invariant.ends), length-ends_from 0 (lines_of (take c.walk.kept before.unread))) in
    let n = c.lines.result + c.len-2.result + 1 in
    let n_is : n ≡ before.lines + length (lines_of (take c.walk.kept before.unread)) + 1 = omega (arith, number, c.lines.ensures, counts.lines) in
    let answer : Code → Type 0 = λ code. next_answer text (passed_count (passed_of text (cursor_state c.args.cursor.now))) ≡ Err (record { code = code; line = n }) in
    elim c.match-branch-3.branch [
      | in-Overlong w ↦ subst answer (sym w.code-is) (extent_from text (cursor_state c.args.cursor.now) before mid left_after (Err (Refused (record { code = ParagraphTooLong; line = n }))) c.walk.invariant.same
          (refused_overlong c.walk.last c.walk.kept before mid left left_after keeps counts text at small _ _ n (subst (λ r. IsNextLine c.walk.kept before left r mid left_after) w.in-Overlong.is c.in_ok-end.ensures.line) n_is))
      | in-Cut w ↦ subst answer (sym w.code-is) (extent_from text (cursor_state c.args.cursor.now) before mid left_after (Err (Refused (record { code = FileTooLong; line = n }))) c.walk.invariant.same
          (refused_cut c.walk.last c.walk.kept before mid left left_after keeps counts text at small n (subst (λ r. IsNextLine c.walk.kept before left r mid left_after) w.in-Cut.is c.in_ok-end.ensures.line) n_is))
    ]
