-- Where the lines of a paragraph that are kept end, by the line after them.
use Rattle.deb_syntax.proofs.Common.{◌≡◌, ◌≢◌, ℕ, ◌+◌, ◌-◌, ◌<◌, ◌≤◌, ◌⊎◌, inl, inr, List, [], ◌∷◌, ◌++◌, Option, Ok, Err, None, false, length, take, drop, sym, ap, ◌∙◌, subst, append_assoc, append-nil, drop-length, arith, length-append, length-take-le, take_all, IsTrue, true, ParagraphTooLong, FileTooLong, Fault, Result, Extent, Line, pieces_of, IsClosed, At, Blank, CutsLine, Ended, IsExtentOf, IsNextLine, KeepsCounts, KeepsLines, Overlong, SameCounts, CursorState, piece_limit, passed_of, AreNotBlank, lines_of, ends_line, ends_blank, passed_count, next_answer, total_length, state_from, IsReadersFault}
use Rattle.std.proofs.lemmas.List.{take-take}
use Rattle.deb_base.specs.Bodies.{paragraph_limit, file_limit}
use Rattle.deb_syntax.specs.Resuming.{HasPassed, IsExtentAhead}
use Rattle.deb_syntax.proofs.Boundaries.{few_lines, total-whole}
use Rattle.deb_syntax.proofs.KeptLines.{cut_lines, ends_after, fresh_length, fresh_lines, keeps_open, keeps_open-line, passes_lines, refused_long}
use Rattle.deb_syntax.proofs.LeftAnswers.{left-beyond}
use Rattle.deb_syntax.proofs.LinesLaws.{pieces_of-some}
use Rattle.deb_syntax.proofs.NextParagraph.{ends_blank-append}
use Rattle.deb_syntax.proofs.Positions.{answer_ahead, at_cut, line_ahead, rest_after}

module _ (end kept : ℕ) (cursor mid : CursorState) (left left_after : Option (List ℕ)) (k : KeepsLines end kept cursor) (counts : KeepsCounts cursor left mid left_after) where
  abbrev pub lines : List Line
  lines = lines_of (take kept cursor.unread)

  some_lines : lines ≢ []
  some_lines none = let some = pieces_of-some (take end cursor.unread) in let bad : some.0 ∷ some.1 ≡ [] = sym some.2 ∙ k.pieces ∙ none in cc

  short : total_length lines ≤ paragraph_limit
  short = omega (arith, k.total, k.short)

  -- also where more has come
  pub kept_pieces : take kept mid.unread ≡ take kept cursor.unread → pieces_of (take end mid.unread) ≡ lines
  kept_pieces same = ap pieces_of (sym (take-take end kept mid.unread k.low) ∙ ap (take end) same ∙ take-take end kept cursor.unread k.low) ∙ k.pieces

  pub ends_extent : (e : Extent) → e.end ≡ end → take kept mid.unread ≡ take kept cursor.unread → kept ≤ length mid.unread → e.skip ≤ length mid.unread → cursor.bytes + e.bytes ≤ file_limit → e.lines ≤ e.bytes → length lines ≤ e.lines → length (drop e.skip mid.unread) ≤ piece_limit → IsExtentOf e mid
  ends_extent e end_is same within skip bytes few counted near =
      let is : pieces_of (take e.end mid.unread) ≡ lines = ap (λ n. pieces_of (take n mid.unread)) end_is ∙ kept_pieces same in
      record {
        not_blank = subst AreNotBlank (sym is) k.not_blank;
        short = subst (λ ls. total_length ls ≤ paragraph_limit) (sym is) short;
        end_within = omega (arith, end_is, k.low, within);
        skip_within = skip;
        within = omega (arith, counts.bytes, bytes);
        few = few;
        counted = omega (arith, ap length is, counted);
        near = near;
      }

  front_length : length (take kept cursor.unread) ≡ kept
  front_length = length-take-le kept cursor.unread k.within

  -- a blank line follows
  pub extent_blank : (bytes next : ℕ) (e : Extent) → IsNextLine kept cursor left (Blank bytes next) mid left_after → e ≡ record { end = end; skip = next; bytes = kept + bytes; lines = length lines + 1 } → IsExtentOf e mid
  extent_blank bytes next e (r, blank, some, size, leaves) is =
      ends_extent e (ap (λ (x : Extent). x.end) is) leaves.kept_same (omega (arith, leaves.order, leaves.within)) (omega (arith, ap (λ (x : Extent). x.skip) is, leaves.within)) (omega (arith, ap (λ (x : Extent). x.bytes) is, size, r.room))
      (omega (arith, ap (λ (x : Extent). x.bytes) is, ap (λ (x : Extent). x.lines) is, some, few_lines (take kept cursor.unread), front_length)) (omega (arith, ap (λ (x : Extent). x.lines) is))
      (omega (arith, ap (λ (x : Extent). length (drop x.skip mid.unread)) is, ap length leaves.behind, r.near))

  -- the file ends
  pub extent_ended : (e : Extent) → IsNextLine kept cursor left Ended mid left_after → e ≡ record { end = end; skip = kept; bytes = kept; lines = length lines } → IsExtentOf e mid
  extent_ended e (all, same, ended, none_came) is =
      let none : length (drop e.skip mid.unread) ≡ 0 = ap (λ (x : Extent). length (drop x.skip mid.unread)) is ∙ ap (λ zs. length (drop kept zs)) same ∙ ap (λ n. length (drop n cursor.unread)) all ∙ ap length (drop-length cursor.unread) in
      ends_extent e (ap (λ (x : Extent). x.end) is) (ap (take kept) same) (omega (arith, ap length same, all)) (omega (arith, ap (λ (x : Extent). x.skip) is, ap length same, all)) (omega (arith, ap (λ (x : Extent). x.bytes) is, k.room))
      (omega (arith, ap (λ (x : Extent). x.bytes) is, ap (λ (x : Extent). x.lines) is, few_lines (take kept cursor.unread), front_length)) (omega (arith, ap (λ (x : Extent). x.lines) is)) (omega (arith, none))

  -- said of a text
  module _ (text : List ℕ) (a : At text [] cursor left) (small : cursor.bytes ≤ file_limit) where
    pub ahead_blank : (bytes next : ℕ) (e : Extent) → IsNextLine kept cursor left (Blank bytes next) mid left_after → e ≡ record { end = end; skip = next; bytes = kept + bytes; lines = length lines + 1 } → IsExtentAhead text cursor (Ok e) mid left_after
    ahead_blank bytes next e (r, blank, some, size, leaves) is after on =
        let whole = keeps_open-line kept cursor left mid left_after end k r in
        let w = line_ahead text [] cursor mid left left_after a counts kept r in
        let front = take kept cursor.unread ++ (r.line ++ r.ending) in
        let front_is = fresh_lines kept cursor left mid left_after r whole in
        let front_len = fresh_length kept cursor left mid left_after r whole k.within in
        let unread : after.unread ≡ r.more = on.unread ∙ ap (λ (x : Extent). drop x.skip mid.unread) is ∙ leaves.behind in
        let ended : IsTrue after.ended → w.0 ≡ [] = λ f. w.3 (sym on.ended ∙ f) in
        let closed : (IsClosed front × (0 < length (r.line ∷ []))) ⊎ (after.unread ++ w.0 ≡ []) = elim (ends_after r.line r.ending r.more mid.ended r.no_newline (take kept cursor.unread) r.ends) [
          | inl ends ↦ inl ((ends, ap ends_blank front_is ∙ ends_blank-append lines (r.line ∷ []) (λ none. cc) blank), omega arith)
          | inr none ↦ inr (ap (λ zs. zs ++ w.0) (unread ∙ none.1) ∙ w.3 none.0)
        ] in
        subst (λ ls. HasPassed text (passed_of text cursor) (record { first = cursor.lines + 1; lines = ls }) (state_from after 0 false None None) left_after) (sym (ap (λ (x : Extent). pieces_of (take x.end mid.unread)) is ∙ kept_pieces leaves.kept_same))
        (passes_lines text cursor left a small front w.0 lines (r.line ∷ []) after left_after w.1 ended (w.2 ∙ ap (λ zs. front ++ (zs ++ w.0)) (sym unread)) front_is some_lines k.not_blank (blank, tt) (omega arith) short closed
        (omega (arith, front_len, r.room)) (omega (arith, on.bytes, counts.bytes, ap (λ (x : Extent). x.bytes) is, size, front_len)) (omega (arith, on.lines, counts.lines, ap (λ (x : Extent). x.lines) is, ap length front_is, length-append lines (r.line ∷ []))) (omega (arith, ap length unread, r.near)))

    pub ahead_ended : (e : Extent) → IsNextLine kept cursor left Ended mid left_after → e ≡ record { end = end; skip = kept; bytes = kept; lines = length lines } → IsExtentAhead text cursor (Ok e) mid left_after
    ahead_ended e (all, same, ended, none_came) is after on =
        let w = rest_after text [] cursor mid left left_after a counts [] none_came in
        let none : w.0 ≡ [] = w.3 ended in
        let front = take kept cursor.unread in
        let front_all : front ≡ cursor.unread = take_all kept cursor.unread (omega (arith, all)) in
        let unread : after.unread ≡ [] = on.unread ∙ ap (λ (x : Extent). drop x.skip mid.unread) is ∙ ap (drop kept) same ∙ ap (λ n. drop n cursor.unread) all ∙ drop-length cursor.unread in
        let nothing : after.unread ++ w.0 ≡ [] = ap (λ zs. zs ++ w.0) unread ∙ none in
        subst (λ ls. HasPassed text (passed_of text cursor) (record { first = cursor.lines + 1; lines = ls }) (state_from after 0 false None None) left_after) (sym (ap (λ (x : Extent). pieces_of (take x.end mid.unread)) is ∙ kept_pieces (ap (take kept) same)))
        (passes_lines text cursor left a small front w.0 lines [] after left_after w.1 (λ f. none) (ap (λ zs. cursor.unread ++ zs) (w.2 ∙ none) ∙ append-nil cursor.unread ∙ sym front_all ∙ sym (append-nil front) ∙ ap (λ zs. front ++ zs) (sym nothing)) (sym (append-nil lines)) some_lines k.not_blank tt (omega arith) short (inr nothing)
        (omega (arith, front_length, k.room)) (omega (arith, on.bytes, counts.bytes, ap (λ (x : Extent). x.bytes) is, front_length)) (omega (arith, on.lines, counts.lines, ap (λ (x : Extent). x.lines) is)) (omega (arith, ap length unread)))

    pub refused_overlong : (len at n : ℕ) → IsNextLine kept cursor left (Overlong len at) mid left_after → n ≡ cursor.lines + length lines + 1 → next_answer text (passed_count (passed_of text cursor)) ≡ Err (record { code = ParagraphTooLong; line = n })
    refused_overlong len at n (r, not_blank, long, len_is, leaves) n_is =
        let whole = keeps_open-line kept cursor left mid left_after end k r in
        let w = line_ahead text [] cursor mid left left_after a counts kept r in
        let front = take kept cursor.unread in
        let total : total_length lines ≡ kept = total-whole front whole ∙ front_length in
        let ends : (ends_line (front ++ (r.line ++ r.ending)) ≡ true) ⊎ (r.more ++ w.0 ≡ []) = elim (ends_after r.line r.ending r.more mid.ended r.no_newline front r.ends) [ inl ends ↦ inl ends | inr none ↦ inr (ap (λ zs. zs ++ w.0) none.1 ∙ w.3 none.0) ] in
        let number : cursor.lines + 1 + length lines ≡ n = omega (arith, n_is) in
        answer_ahead text (passed_of text cursor) _ cursor.bytes cursor.lines (at_cut text [] cursor left a) small
        ∙ refused_long text cursor left a small front r.line r.ending (r.more ++ w.0) w.2 ends (fresh_lines kept cursor left mid left_after r whole) (omega (arith, fresh_length kept cursor left mid left_after r whole k.within, r.room)) k.not_blank not_blank short (omega (arith, total, long))
        ∙ ap (λ m. Err (record { code = ParagraphTooLong; line = m })) number

    pub refused_cut : (n : ℕ) → CutsLine kept cursor left left_after → n ≡ cursor.lines + length lines + 1 → next_answer text (passed_count (passed_of text cursor)) ≡ Err (record { code = FileTooLong; line = n })
    refused_cut n c n_is =
        let front = take kept cursor.unread in
        let whole = keeps_open kept cursor left mid left_after end c.came (c.line ++ c.more) k c.quiet c.whole (omega (arith, c.beyond, length-append c.line c.more)) in
        let w = rest_after text [] cursor mid left left_after a counts c.came c.consumed in
        let is : cursor.unread ++ a.rest ≡ (front ++ c.line) ++ (c.more ++ w.0) = ap (λ zs. cursor.unread ++ zs) w.2 ∙ sym (append_assoc cursor.unread c.came w.0) ∙ ap (λ zs. zs ++ w.0) (c.whole ∙ sym (append_assoc front c.line c.more)) ∙ append_assoc (front ++ c.line) c.more w.0 in
        let beyond = cut_lines text cursor left a small front c.line (c.more ++ w.0) is whole c.no_newline (omega (arith, c.room, front_length, length-append front c.line)) (omega (arith, c.beyond, length-append c.more w.0)) in
        let number : cursor.lines + 1 + length lines ≡ n = omega (arith, n_is) in
        answer_ahead text (passed_of text cursor) _ cursor.bytes cursor.lines (at_cut text [] cursor left a) small
        ∙ left-beyond (cursor.lines + 1) (file_limit - cursor.bytes) (cursor.unread ++ a.rest) lines beyond.0 beyond.1 k.not_blank short ∙ ap (λ m. Err (record { code = FileTooLong; line = m })) number

-- the same said of where the paragraph begins
pub extent_from : (text : List ℕ) (before cursor mid : CursorState) (left : Option (List ℕ)) (result : Result Extent Fault) → SameCounts before cursor → IsExtentAhead text cursor result mid left → IsExtentAhead text before result mid left
extent_from text before cursor mid left (Ok e) same x = λ after on.
    subst (λ n. HasPassed text (take n text) (record { first = before.lines + 1; lines = pieces_of (take e.end mid.unread) }) (state_from after 0 false None None) left) same.bytes
    (subst (λ n. HasPassed text (passed_of text cursor) (record { first = n + 1; lines = pieces_of (take e.end mid.unread) }) (state_from after 0 false None None) left) same.lines (x after on))
extent_from text before cursor mid left (Err fault) same x = subst (λ n. IsReadersFault fault (λ refusal. next_answer text (passed_count (take n text)) ≡ Err refusal)) same.bytes x
