-- The lines of a paragraph that are kept, and what the line after them makes of them: one more, the paragraph, or a refusal.
use Rattle.deb_syntax.proofs.Common.{Takes, had, ◌≡◌, ◌≢◌, ℕ, ◌+◌, ◌-◌, ◌<◌, ◌≤◌, ◌⊎◌, inl, inr, Bool, true, false, List, [], ◌∷◌, ◌++◌, Option, Some, None, Err, length, take, drop, refl, sym, ap, ◌∙◌, subst, append_assoc, append-nil, arith, length-append, drop-append_seam, take-append_seam, length-take-le, IsTrue, false≢true, Line, line_length, nat_le, ◌==◌, and_right, begins_with_blank, is_all_blank, is_blank_byte, pieces_of, HasNoNewline, is_blank, All-append, ParagraphTooLong, At, EndsLine, KeepsLines, ReadsLine, left_answer, part_within, whole_lines, AreBlank, AreNotBlank, CursorState, piece_limit, passed_of, lines_of, ends_line, begins_blank, IsClosed, paragraphs_from, total_length, state_from, sum_by-append}
use Rattle.std.proofs.lemmas.Bool.{and_left}
use Rattle.deb_base.specs.Bodies.{paragraph_limit, file_limit}
use Rattle.deb_syntax.specs.LineEnds.{ends_from, line_ends}
use Rattle.deb_syntax.specs.Resuming.{HasPassed}
use Rattle.deb_syntax.proofs.Boundaries.{lines_of-append, pieces_of-append, ends_line-append, total-whole}
use Rattle.deb_syntax.proofs.LeftAnswers.{left-run, left-long}
use Rattle.deb_syntax.proofs.LineEnds.{ends_from-push}
use Rattle.deb_syntax.proofs.Parts.{part_within-all, part_within-some, part_within-append, whole_lines-append, whole_lines-none}
use Rattle.deb_syntax.proofs.Passing.{IsBehind, paragraphs-passed}
use Rattle.deb_syntax.proofs.Positions.{answer_ahead, at_cut, at_moves, cut_fits, paragraphs_ahead}
use Rattle.deb_syntax.proofs.Takings.{consumes_takes, takes_none, takes_then}
use Rattle.deb_syntax.proofs.Runs.{lines_of-line, lines_of-last, pieces_of-last, paragraphs_from-run}

pub nonempty : {X : Type 0} (xs : List X) → xs ≢ [] → 0 < length xs
nonempty [] some = absurd (some refl)
nonempty (x ∷ xs) some = omega arith

pub no_elements : {X : Type 0} (xs : List X) → length xs ≡ 0 → xs ≡ []
no_elements [] none = refl
no_elements (x ∷ xs) none = absurd (omega (arith, none))

pub not_empty : (line : List ℕ) → is_blank line ≡ false → line ≢ []
unfolding paragraph_limit
not_empty [] h e = absurd (false≢true (sym h))
not_empty (b ∷ line) h e = let l : length (b ∷ line) ≡ 0 = ap length e in absurd (omega arith)

-- a line that begins with a byte that isn't blank
pub not_blank-begins : (line : List ℕ) → (length line == 0) ≡ false → begins_with_blank line ≡ false → is_blank line ≡ false
not_blank-begins [] some h = absurd (false≢true (sym some))
not_blank-begins (b ∷ line) some h = and_right (nat_le (line_length (b ∷ line)) paragraph_limit) (is_all_blank (b ∷ line)) (and_left (is_blank_byte b) (is_all_blank line) h)

-- a line with its ending is one line
module _ (line ending more : List ℕ) (ended : Bool) (no_newline : HasNoNewline line) where
  pub ended_lines : EndsLine line ending more ended → lines_of (line ++ ending) ≡ line ∷ []
  ended_lines (inl is) = ap (λ e. lines_of (line ++ e)) is ∙ lines_of-line line [] no_newline
  ended_lines (inr (is, none, end, some)) = ap (λ e. lines_of (line ++ e)) is ∙ ap lines_of (append-nil line) ∙ unended line some no_newline
    where
      unended : (line : List ℕ) → line ≢ [] → HasNoNewline line → lines_of line ≡ line ∷ []
      unended [] some h = absurd (some refl)
      unended (b ∷ line) some h = lines_of-last b line h

  pub ending_short : EndsLine line ending more ended → length ending ≤ 1
  ending_short (inl is) = omega (arith, ap length is)
  ending_short (inr (is, none, end, some)) = omega (arith, ap length is)

  pub ending_some : EndsLine line ending more ended → 0 < length line + length ending
  ending_some (inl is) = omega (arith, ap length is)
  ending_some (inr (is, none, end, some)) = omega (arith, nonempty line some)

  -- after whole lines the text ends a line, or nothing follows
  pub ends_after : (front : List ℕ) → EndsLine line ending more ended → (ends_line (front ++ (line ++ ending)) ≡ true) ⊎ (IsTrue ended × (more ≡ []))
  ends_after front (inl is) = inl (ap (λ e. ends_line (front ++ (line ++ e))) is ∙ ends_line-append front line)
  ends_after front (inr (is, none, end, some)) = inr (end, none)

-- the lines in sight, where these come first
pub visible_lines : (room : ℕ) (fresh more : List ℕ) → (ends_line fresh ≡ true) ⊎ (more ≡ []) → length fresh ≤ room → (others : List Line) × (lines_of (part_within room (fresh ++ more)) ≡ lines_of fresh ++ others)
visible_lines room fresh more (inl ends) within = (
  lines_of (part_within (room - length fresh) more),
  ap lines_of (part_within-append room fresh more ends within) ∙ lines_of-append fresh (part_within (room - length fresh) more) ends,
)
visible_lines room fresh more (inr none) within = (
  [],
  ap (λ m. lines_of (part_within room (fresh ++ m))) none ∙ ap (λ t. lines_of (part_within room t)) (append-nil fresh) ∙ ap lines_of (part_within-all room fresh within) ∙ sym (append-nil (lines_of fresh)),
)

-- the first `kept` unread bytes
module _ (kept : ℕ) (before : CursorState) (left : Option (List ℕ)) (after : CursorState) (left_after : Option (List ℕ)) where
  -- where a line follows whole lines, they are more of them
  module _ (r : ReadsLine kept before left after left_after) (whole : ends_line (take kept before.unread) ≡ true) where
    abbrev pub fresh : List ℕ
    fresh = take kept before.unread ++ (r.line ++ r.ending)

    pub fresh_lines : lines_of fresh ≡ lines_of (take kept before.unread) ++ r.line ∷ []
    fresh_lines = lines_of-append (take kept before.unread) (r.line ++ r.ending) whole ∙ ap (λ ls. lines_of (take kept before.unread) ++ ls) (ended_lines r.line r.ending r.more after.ended r.no_newline r.ends)

    pub fresh_length : kept ≤ length before.unread → length fresh ≡ kept + (length r.line + length r.ending)
    fresh_length within = omega (arith, length-append (take kept before.unread) (r.line ++ r.ending), length-append r.line r.ending, length-take-le kept before.unread within)

    -- a line that isn't blank is kept too
    pub keeps_more : (end next : ℕ) → kept ≤ length before.unread → AreNotBlank (lines_of (take kept before.unread)) → is_blank r.line ≡ false → kept + length r.line < paragraph_limit → end ≡ kept + length r.line → next ≡ end + length r.ending → after.unread ≡ before.unread ++ r.came → after.bytes ≡ before.bytes → KeepsLines end next after × (line_ends (take next after.unread) ≡ line_ends (take kept before.unread) ++ end ∷ [])
    keeps_more end next within not_blank line_not short end_is next_is unread bytes =
        let front = take kept before.unread in
        let front_len = length-take-le kept before.unread within in
        let size = fresh_length within in
        let one = ending_short r.line r.ending r.more after.ended r.no_newline r.ends in
        let all : after.unread ≡ fresh ++ r.more = unread ∙ r.whole ∙ ap (λ zs. front ++ zs) (sym (append_assoc r.line r.ending r.more)) ∙ sym (append_assoc front (r.line ++ r.ending) r.more) in
        let next_len : next ≡ length fresh = omega (arith, end_is, next_is, size) in
        let taken : take next after.unread ≡ fresh = ap (λ n. take n after.unread) next_len ∙ ap (take (length fresh)) all ∙ take-append_seam fresh r.more in
        let body : after.unread ≡ (front ++ r.line) ++ (r.ending ++ r.more) = unread ∙ r.whole ∙ sym (append_assoc front r.line (r.ending ++ r.more)) in
        let end_len : end ≡ length (front ++ r.line) = omega (arith, end_is, front_len, length-append front r.line) in
        let body_taken : take end after.unread ≡ front ++ r.line = ap (λ n. take n after.unread) end_len ∙ ap (take (length (front ++ r.line))) body ∙ take-append_seam (front ++ r.line) (r.ending ++ r.more) in
        let lines : lines_of (take next after.unread) ≡ lines_of front ++ r.line ∷ [] = ap lines_of taken ∙ fresh_lines in
        let behind : drop next after.unread ≡ r.more = ap (λ n. drop n after.unread) next_len ∙ ap (drop (length fresh)) all ∙ drop-append_seam fresh r.more in
        let sum : total_length (lines_of front) ≡ kept = total-whole front whole ∙ front_len in (
          record {
            within = omega (arith, next_len, ap length all, length-append fresh r.more);
            room = omega (arith, bytes, next_is, end_is, r.room);
            near = omega (arith, ap length behind, r.near);
            not_blank = subst AreNotBlank (sym lines) (All-append _ _ _ not_blank (line_not, tt));
            total = ap total_length lines ∙ total_more (lines_of front) r.line ∙ omega (arith, sum, end_is);
            pieces = ap pieces_of body_taken ∙ pieces_of-append front r.line whole ∙ ap (λ ls. lines_of front ++ ls) (pieces_of-last r.line r.no_newline) ∙ sym lines;
            low = omega (arith, next_is);
            high = omega (arith, next_is, one);
            short = omega (arith, end_is, short);
            closed = go taken next_len all (ends_after r.line r.ending r.more after.ended r.no_newline front r.ends);
          },
          ap (ends_from 0) lines ∙ ends_from-push 0 (lines_of front) r.line ∙ ap (λ n. ends_from 0 (lines_of front) ++ n ∷ []) (omega (arith, sum, end_is)),
        )
      where
        total_more : (lines : List Line) (line : Line) → total_length (lines ++ line ∷ []) ≡ total_length lines + (length line + 1)
        total_more lines line = sum_by-append line_length lines (line ∷ []) ∙ omega arith

        go : take next after.unread ≡ fresh → next ≡ length fresh → after.unread ≡ fresh ++ r.more → (ends_line fresh ≡ true) ⊎ (IsTrue after.ended × (r.more ≡ [])) → (ends_line (take next after.unread) ≡ true) ⊎ (IsTrue after.ended × (next ≡ length after.unread))
        go taken len all (inl ends) = inl (ap ends_line taken ∙ ends)
        go taken len all (inr (ended, none)) = inr (ended, omega (arith, len, ap length all, length-append fresh r.more, ap length none))

  -- how much was taken for it
  pub reads_takes : (r : ReadsLine kept before left after left_after) → kept ≤ length before.unread → Takes (had before) left (before.bytes + (kept + (length r.line + (length r.ending + length r.more)))) left_after
  reads_takes r within =
      takes_then _ _ _ _ _ _ _ _ (takes_none (had before) (had before) left (omega arith)) (consumes_takes left left_after r.came r.consumed)
      (omega (arith, ap length r.whole, length-append before.unread r.came, length-append (take kept before.unread) (r.line ++ (r.ending ++ r.more)), length-append r.line (r.ending ++ r.more), length-append r.ending r.more, length-take-le kept before.unread within))

  -- where something follows kept lines, the last of them ends
  pub keeps_open : (end : ℕ) (came behind : List ℕ) → KeepsLines end kept before → (IsTrue before.ended → came ≡ []) → before.unread ++ came ≡ take kept before.unread ++ behind → 0 < length behind → ends_line (take kept before.unread) ≡ true
  keeps_open end came behind k quiet whole some = go k.closed
    where
      go : (ends_line (take kept before.unread) ≡ true) ⊎ (IsTrue before.ended × (kept ≡ length before.unread)) → ends_line (take kept before.unread) ≡ true
      go (inl ends) = ends
      go (inr (ended, all)) = absurd (omega (arith, some, all, ap length whole, length-append before.unread came, length-append (take kept before.unread) behind, length-take-le kept before.unread k.within, ap length (quiet ended)))

  pub keeps_open-line : (end : ℕ) → KeepsLines end kept before → (r : ReadsLine kept before left after left_after) → ends_line (take kept before.unread) ≡ true
  keeps_open-line end k r = keeps_open end r.came (r.line ++ (r.ending ++ r.more)) k r.quiet r.whole (omega (arith, ending_some r.line r.ending r.more after.ended r.no_newline r.ends, length-append r.line (r.ending ++ r.more), length-append r.ending r.more))

-- what is ahead of a reader, said of the whole text
module _ (text : List ℕ) (cursor : CursorState) (left : Option (List ℕ)) (a : At text [] cursor left) (small : cursor.bytes ≤ file_limit) where
  abbrev room : ℕ
  room = file_limit - cursor.bytes

  -- lines that follow whole ones and with which they are too long
  pub refused_long : (front line ending more : List ℕ) → cursor.unread ++ a.rest ≡ (front ++ (line ++ ending)) ++ more → (ends_line (front ++ (line ++ ending)) ≡ true) ⊎ (more ≡ []) → lines_of (front ++ (line ++ ending)) ≡ lines_of front ++ line ∷ [] → length (front ++ (line ++ ending)) ≤ room → AreNotBlank (lines_of front) → is_blank line ≡ false → total_length (lines_of front) ≤ paragraph_limit → paragraph_limit ≤ total_length (lines_of front) + length line → left_answer (cursor.lines + 1) room (cursor.unread ++ a.rest) ≡ Err (record { code = ParagraphTooLong; line = cursor.lines + 1 + length (lines_of front) })
  refused_long front line ending more is ends lines within not_blank line_not short long =
      let seen = visible_lines room (front ++ (line ++ ending)) more ends within in
      left-long (cursor.lines + 1) room (cursor.unread ++ a.rest) (lines_of front) line seen.0
      (ap (λ t. lines_of (part_within room t)) is ∙ seen.1 ∙ ap (λ ls. ls ++ seen.0) lines ∙ append_assoc (lines_of front) (line ∷ []) seen.0) not_blank line_not short (omega (arith, long))

  -- the line after whole ones goes on beyond the limit of a file
  pub cut_lines : (front line more : List ℕ) → cursor.unread ++ a.rest ≡ (front ++ line) ++ more → ends_line front ≡ true → HasNoNewline line → length (front ++ line) ≡ room → 0 < length more → (lines_of (part_within room (cursor.unread ++ a.rest)) ≡ lines_of front) × (room < length (cursor.unread ++ a.rest))
  cut_lines front line more is ends no_newline size some =
      let long : room < length (cursor.unread ++ a.rest) = omega (arith, size, some, ap length is, length-append (front ++ line) more) in
      let taken : take room (cursor.unread ++ a.rest) ≡ front ++ line = ap (take room) is ∙ ap (λ n. take n ((front ++ line) ++ more)) (sym size) ∙ take-append_seam (front ++ line) more in (
        ap lines_of (part_within-some room (cursor.unread ++ a.rest) long ∙ ap whole_lines taken ∙ whole_lines-append front line ends ∙ ap (λ t. front ++ t) (whole_lines-none line no_newline) ∙ append-nil front),
        long,
      )

  -- what passes is the next paragraph
  pub passes_lines : (fresh rest : List ℕ) (lines ending : List Line) (after : CursorState) (left_after : Option (List ℕ)) → left_after ≡ Some rest → (IsTrue after.ended → rest ≡ []) → cursor.unread ++ a.rest ≡ fresh ++ (after.unread ++ rest) → lines_of fresh ≡ lines ++ ending → lines ≢ [] → AreNotBlank lines → AreBlank ending → length ending ≤ 1 → total_length lines ≤ paragraph_limit → (IsClosed fresh × (0 < length ending)) ⊎ (after.unread ++ rest ≡ []) → length fresh ≤ room → after.bytes ≡ cursor.bytes + length fresh → after.lines ≡ cursor.lines + length (lines_of fresh) → length after.unread ≤ piece_limit → HasPassed text (passed_of text cursor) (record { first = cursor.lines + 1; lines = lines }) (state_from after 0 false None None) left_after
  passes_lines fresh rest [] ending after left_after told ended is fresh_is some not_blank blank one short closed within bytes counted near = absurd (some refl)
  passes_lines fresh rest (first ∷ run) ending after left_after told ended is fresh_is some not_blank blank one short closed within bytes counted near =
      let passed = passed_of text cursor in
      let cut = at_cut text [] cursor left a in
      let behind : IsClosed fresh ⊎ (after.unread ++ rest ≡ []) = elim closed [ inl c ↦ inl c.0 | inr none ↦ inr none ] in
      let moved = at_moves text [] [] fresh rest cursor after left left_after a told is behind bytes counted ended in
      let sight = in_sight closed in
      let count : length (lines_of fresh) ≡ length (first ∷ run) + length ending = ap length fresh_is ∙ length-append (first ∷ run) ending in
      record {
        more = paragraphs_from (cursor.lines + 1 + length (first ∷ run)) sight.0;
        next = paragraphs_ahead text passed _ cursor.bytes cursor.lines cut small _ _ (ap (paragraphs_from (cursor.lines + 1)) sight.1 ∙ paragraphs_from-run (cursor.lines + 1) first run sight.0 not_blank sight.2);
        answer = answer_ahead text passed _ cursor.bytes cursor.lines cut small ∙ left-run (cursor.lines + 1) room (cursor.unread ++ a.rest) first run sight.0 sight.1 not_blank sight.2 short sight.3;
        some = some;
        short = short;
        front = passed;
        fresh = fresh;
        ending = ending;
        closed = closed_before cut.behind fresh is fresh_is;
        before = refl;
        lines = fresh_is;
        blank = blank;
        within = omega (arith, length-append passed fresh, cut.bytes, within, small);
        again = cut_fits text (passed ++ fresh) after 0 false None None left_after [] rest moved told ended refl tt (λ f. absurd (false≢true f));
        passes = paragraphs-passed text passed _ cursor.bytes cursor.lines cut fresh _ first run ending is fresh_is not_blank blank;
        ends = omega (arith, counted, count, one);
        near = near;
      }
    where
      blank_first : (lines others : List Line) → AreBlank lines → (0 < length lines) ⊎ (others ≡ []) → begins_blank (lines ++ others) ≡ true
      blank_first [] others h (inl none) = absurd (omega (arith, none))
      blank_first [] others h (inr none) = ap begins_blank none
      blank_first (line ∷ lines) others h some = h.0

      in_sight : (IsClosed fresh × (0 < length ending)) ⊎ (after.unread ++ rest ≡ []) → (others : List Line) × (lines_of (part_within room (cursor.unread ++ a.rest)) ≡ (first ∷ run) ++ others) × (begins_blank others ≡ true) × ((length (cursor.unread ++ a.rest) ≤ room) ⊎ (0 < length others))
      in_sight (inl (whole, some)) =
          let seen = visible_lines room fresh (after.unread ++ rest) (inl whole.0) within in (
            ending ++ seen.0,
            ap (λ t. lines_of (part_within room t)) is ∙ seen.1 ∙ ap (λ ls. ls ++ seen.0) fresh_is ∙ append_assoc (first ∷ run) ending seen.0,
            blank_first ending seen.0 blank (inl some),
            inr (omega (arith, some, length-append ending seen.0)),
          )
      in_sight (inr none) =
          let all : cursor.unread ++ a.rest ≡ fresh = is ∙ ap (λ zs. fresh ++ zs) none ∙ append-nil fresh in (
            ending,
            ap (λ t. lines_of (part_within room t)) all ∙ ap lines_of (part_within-all room fresh within) ∙ fresh_is,
            ap begins_blank (sym (append-nil ending)) ∙ blank_first ending [] blank (inr refl),
            inl (omega (arith, ap length all, within)),
          )

      closed_before : IsBehind (passed_of text cursor) (cursor.unread ++ a.rest) → (front : List ℕ) → cursor.unread ++ a.rest ≡ front ++ (after.unread ++ rest) → lines_of front ≡ (first ∷ run) ++ ending → IsClosed (passed_of text cursor)
      closed_before (inl whole) front is lines = whole
      closed_before (inr none) [] is lines = absurd cc
      closed_before (inr none) (b ∷ front) is lines = absurd cc
