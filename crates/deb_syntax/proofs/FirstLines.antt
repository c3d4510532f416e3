-- The first line that isn't blank, and the blank lines before it that pass.
use Rattle.deb_base.specs.Bodies.{file_limit, paragraph_limit}
use Rattle.deb_syntax.proofs.Common.{Ended, IsTrue, Takes, had, take, and_parts, ends_line, eqb-true, length-drop, length-take-le, list_all, take-append-drop, true, ◌==◌, ◌≡◌, ℕ, ◌+◌, ◌-◌, ◌≤◌, ◌⊎◌, inl, inr, List, [], ◌∷◌, ◌++◌, Option, Ok, Err, length, refl, sym, ap, ◌∙◌, subst, append_assoc, append-nil, arith, length-append, get_or, FileTooLong, newline, IsClosed, At, Blank, CutsLine, EndsLine, EndsOverlong, HasFirst, IsFirst, IsNear, IsNextLine, KeepsCounts, KeepsLine, Overlong, PassesOn, Skips, TooLong, Buffered, NoMore, Whole, CursorState, piece_limit, passed_of, lines_of, ends_blank, paragraphs_of, passed_count, next_answer, next_begin, AreBlank, Fault, FirstLine, IsReadersFault, Result}
use Rattle.deb_syntax.proofs.KeptLines.{cut_lines, ended_lines, ending_short, ends_after, keeps_more, reads_takes}
use Rattle.deb_syntax.proofs.LeftAnswers.{left-beyond, left-cut}
use Rattle.deb_syntax.proofs.NextLines.{near-line, near-short}
use Rattle.deb_syntax.proofs.NextParagraph.{blank-ends}
use Rattle.deb_syntax.proofs.Passing.{blanks-passed}
use Rattle.deb_syntax.proofs.Positions.{answer_ahead, at_cut, at_more, at_moves, begin_ahead, cut_at, line_ahead, rest_after}

-- the line that was read, for every source
module _ (before mid : CursorState) (left left_after : Option (List ℕ)) (k : KeepsCounts before left mid left_after) where
  pub first_kept : (end next : ℕ) → IsNextLine 0 before left (Whole end next) mid left_after → KeepsLine end next mid
  first_kept end next (r, not_blank, short, end_is, next_is, unread) =
      let kept = keeps_more 0 before left mid left_after r refl end next (omega arith) tt not_blank short end_is next_is unread k.bytes in
      let size : length (r.ending ++ r.more) ≤ piece_limit + 1 = omega (arith, length-append r.ending r.more, ending_short r.line r.ending r.more mid.ended r.no_newline r.ends, r.near) in
      record { lines = kept.0; one = kept.1; first_near = subst IsNear (sym (unread ∙ r.whole)) (near-line r.line (r.ending ++ r.more) r.no_newline size) }

  pub first_long : (len end : ℕ) (after : CursorState) → IsNextLine 0 before left (Overlong len end) mid left_after → PassesOn mid end 0 0 after → HasFirst (Ok (TooLong len)) after
  first_long len end after (r, not_blank, long, len_is, leaves) on =
      let unread : after.unread ≡ r.ending ++ r.more = on.unread ∙ leaves.behind in
      let one = ending_short r.line r.ending r.more mid.ended r.no_newline r.ends in
      let size = length-append r.ending r.more in (
        omega (arith, long, len_is),
        go r.ends unread,
        subst IsNear (sym unread) (near-line [] (r.ending ++ r.more) tt (omega (arith, size, one, r.near))),
        omega (arith, on.bytes, k.bytes, len_is, ap length unread, size, r.near, r.room),
      )
    where
      go : EndsLine r.line r.ending r.more mid.ended → after.unread ≡ r.ending ++ r.more → EndsOverlong len after
      go (inl is) unread = (
        omega (arith, on.bytes, k.bytes, len_is, r.room),
        λ none. absurd (omega (arith, none, ap length unread, length-append r.ending r.more, ap length is)),
        λ some. (ap (λ zs. get_or zs 0 newline) (unread ∙ ap (λ zs. zs ++ r.more) is), omega (arith, on.bytes, k.bytes, len_is, ap length is, r.room)),
      )
      go (inr (is, none, ended, some)) unread = (
        omega (arith, on.bytes, k.bytes, len_is, r.room),
        λ e. on.ended ∙ ended,
        λ more. absurd (omega (arith, more, ap length unread, length-append r.ending r.more, ap length is, ap length none)),
      )

  -- a blank line that passed
  pub blank_near : (bytes next : ℕ) (after : CursorState) → IsNextLine 0 before left (Blank bytes next) mid left_after → PassesOn mid next bytes 1 after → IsNear after.unread × (had after ≤ file_limit + piece_limit) × Takes (had before) left (had after) left_after
  blank_near bytes next after (r, blank, some, size, leaves) on =
      let unread : after.unread ≡ r.more = on.unread ∙ leaves.behind in
      let all : had after ≡ before.bytes + (0 + (length r.line + (length r.ending + length r.more))) = omega (arith, on.bytes, k.bytes, size, ap length unread) in (
        near-short after.unread (omega (arith, ap length unread, r.near)),
        omega (arith, all, r.near, r.room),
        subst (λ n. Takes (had before) left n left_after) (sym all) (reads_takes 0 before left mid left_after r (omega arith)),
      )

  -- said of a text
  module _ (text : List ℕ) (a : At text [] before left) where
    pub blank_passes : (bytes next : ℕ) (after : CursorState) → IsNextLine 0 before left (Blank bytes next) mid left_after → PassesOn mid next bytes 1 after → Skips text before [] after left_after
    blank_passes bytes next after (r, blank, some, size, leaves) on =
        let w = line_ahead text [] before mid left left_after a k 0 r in
        let front = r.line ++ r.ending in
        let lines : lines_of front ≡ r.line ∷ [] = ended_lines r.line r.ending r.more mid.ended r.no_newline r.ends in
        let unread : after.unread ≡ r.more = on.unread ∙ leaves.behind in
        let is : before.unread ++ a.rest ≡ front ++ (after.unread ++ w.0) = w.2 ∙ ap (λ zs. front ++ (zs ++ w.0)) (sym unread) in
        let ended : IsTrue after.ended → w.0 ≡ [] = λ e. w.3 (sym on.ended ∙ e) in
        let closed : IsClosed front ⊎ (after.unread ++ w.0 ≡ []) = elim (ends_after r.line r.ending r.more mid.ended r.no_newline [] r.ends) [
          | inl ends ↦ inl (ends, ap ends_blank lines ∙ blank)
          | inr none ↦ inr (ap (λ zs. zs ++ w.0) (unread ∙ none.1) ∙ w.3 none.0)
        ] in
        let c = at_moves text [] [] front w.0 before after left left_after a w.1 is closed (omega (arith, on.bytes, k.bytes, size, length-append r.line r.ending)) (omega (arith, on.lines, k.lines, ap length lines)) ended in
        let at = cut_at text (passed_of text before ++ front) [] w.0 after left_after w.1 c ended in
        (at.0, ap paragraphs_of at.1 ∙ blanks-passed text (passed_of text before) _ before.bytes before.lines (at_cut text [] before left a) front _ is (subst AreBlank (sym lines) (blank, tt)))

    pub whole_skips : (end next : ℕ) → IsNextLine 0 before left (Whole end next) mid left_after → Skips text before [] mid left_after
    whole_skips end next (r, not_blank, short, end_is, next_is, unread) = (at_more text [] before mid left left_after a k r.came r.consumed unread, ap (λ n. paragraphs_of (take n text)) k.bytes)

    pub ended_skips : IsNextLine 0 before left Ended mid left_after → Skips text before [] mid left_after × IsTrue mid.ended
    ended_skips (all, unread, ended, none_came) = ((at_more text [] before mid left left_after a k [] none_came (unread ∙ sym (append-nil before.unread)), ap (λ n. paragraphs_of (take n text)) k.bytes), ended)

    pub long_dropped : (len end : ℕ) (after : CursorState) → IsNextLine 0 before left (Overlong len end) mid left_after → PassesOn mid end 0 0 after → IsFirst text before (Ok (TooLong len)) after left_after
    long_dropped len end after (r, not_blank, long, len_is, leaves) on =
        let w = line_ahead text [] before mid left left_after a k 0 r in
        let unread : after.unread ≡ r.ending ++ r.more = on.unread ∙ leaves.behind in
        let is : before.unread ++ a.rest ≡ r.line ++ (after.unread ++ w.0) = w.2 ∙ append_assoc r.line r.ending (r.more ++ w.0) ∙ ap (λ zs. r.line ++ zs) (sym (append_assoc r.ending r.more w.0) ∙ ap (λ zs. zs ++ w.0) (sym unread)) in
        let ended : IsTrue after.ended → w.0 ≡ [] = λ e. w.3 (sym on.ended ∙ e) in
        let zero_more : before.bytes ≡ before.bytes + 0 = omega arith in
        let c = at_moves text [] r.line [] w.0 before after left left_after a w.1 is (inl (refl, refl)) (omega (arith, on.bytes, k.bytes)) (omega (arith, on.lines, k.lines)) ended in
        let at = cut_at text (passed_of text before ++ []) r.line w.0 after left_after w.1 c ended in
        (r.line, (at.0, ap paragraphs_of (at.1 ∙ append-nil (passed_of text before))), sym len_is, r.no_newline)

    pub cut_refused : (n : ℕ) → CutsLine 0 before left left_after → before.bytes ≤ file_limit → n ≡ before.lines → (next_answer text (passed_count (passed_of text before)) ≡ Err (record { code = FileTooLong; line = n + 1 })) × (next_begin text (passed_count (passed_of text before)) ≡ Err (record { code = FileTooLong; line = n + 1 }))
    cut_refused n c small n_is =
        let w = rest_after text [] before mid left left_after a k c.came c.consumed in
        let is : before.unread ++ a.rest ≡ c.line ++ (c.more ++ w.0) = ap (λ zs. before.unread ++ zs) w.2 ∙ sym (append_assoc before.unread c.came w.0) ∙ ap (λ zs. zs ++ w.0) c.whole ∙ append_assoc c.line c.more w.0 in
        let beyond = cut_lines text before left a small [] c.line (c.more ++ w.0) is refl c.no_newline (omega (arith, c.room)) (omega (arith, c.beyond, length-append c.more w.0)) in
        let cut = at_cut text [] before left a in
        let at : before.lines + 1 + 0 ≡ n + 1 = omega (arith, n_is) in
        let here : before.lines + 1 ≡ n + 1 = omega (arith, n_is) in
        let room = file_limit - before.bytes in (
          answer_ahead text (passed_of text before) _ before.bytes before.lines cut small ∙ left-beyond (before.lines + 1) room (before.unread ++ a.rest) [] beyond.0 beyond.1 tt (omega arith) ∙ ap (λ k. Err (record { code = FileTooLong; line = k })) at,
          begin_ahead text (passed_of text before) _ before.bytes before.lines cut small ∙ left-cut (before.lines + 1) room (before.unread ++ a.rest) beyond.0 beyond.1 ∙ ap (λ k. Err (record { code = FileTooLong; line = k })) here,
        )

-- newlines are empty lines
newlines_lines : (xs : List ℕ) → IsTrue (list_all (λ b. b == newline) xs) → AreBlank (lines_of xs) × (length (lines_of xs) ≡ length xs)
unfolding paragraph_limit
newlines_lines [] h = (tt, refl)
newlines_lines (b ∷ xs) h =
    let p = and_parts (b == newline) (list_all (λ b. b == newline) xs) h in
    let more = newlines_lines xs p.1 in
    let lines : lines_of (b ∷ xs) ≡ [] ∷ lines_of xs = ap (λ c. lines_of (c ∷ xs)) (eqb-true b newline p.0) in
    (subst AreBlank (sym lines) (refl, more.0), omega (arith, ap length lines, more.1))

newlines_end : (xs : List ℕ) → IsTrue (list_all (λ b. b == newline) xs) → ends_line xs ≡ true
newlines_end [] h = refl
newlines_end (b ∷ []) h = (and_parts (b == newline) true h).0
newlines_end (b ∷ c ∷ xs) h = newlines_end (c ∷ xs) (and_parts (b == newline) (list_all (λ b. b == newline) (c ∷ xs)) h).1

module _ (before after : CursorState) (left : Option (List ℕ)) (count : ℕ) (within : count ≤ length before.unread) (all : IsTrue (list_all (λ b. b == newline) (take count before.unread))) (on : PassesOn before count count count after) where
  pub newlines_near : IsNear before.unread → IsNear after.unread
  newlines_near near front more is = near (take count before.unread ++ front) more (sym (take-append-drop count before.unread) ∙ ap (λ zs. take count before.unread ++ zs) (sym on.unread ∙ is) ∙ sym (append_assoc (take count before.unread) front (newline ∷ more)))

  pub newlines_had : had after ≡ had before
  newlines_had = omega (arith, on.bytes, ap length on.unread, length-drop count before.unread, within)

  pub newlines_skip : (text : List ℕ) → At text [] before left → Skips text before [] after left
  newlines_skip text a =
      let front = take count before.unread in
      let l = newlines_lines front all in
      let size : length front ≡ count = length-take-le count before.unread within in
      let is : before.unread ++ a.rest ≡ front ++ (after.unread ++ a.rest) = ap (λ zs. zs ++ a.rest) (sym (take-append-drop count before.unread) ∙ ap (λ zs. front ++ zs) (sym on.unread)) ∙ append_assoc front after.unread a.rest in
      let ended : IsTrue after.ended → a.rest ≡ [] = λ e. a.ended (sym on.ended ∙ e) in
      let c = at_moves text [] [] front a.rest before after left left a a.told is (inl (newlines_end front all, blank-ends (lines_of front) l.0)) (omega (arith, on.bytes, size)) (omega (arith, on.lines, l.1, size)) ended in
      let at = cut_at text (passed_of text before ++ front) [] a.rest after left a.told c ended in
      (at.0, ap paragraphs_of at.1 ∙ blanks-passed text (passed_of text before) _ before.bytes before.lines (at_cut text [] before left a) front _ is l.0)

-- blank lines that have passed before
pub first_after : (text : List ℕ) (before cursor after : CursorState) (left : Option (List ℕ)) (result : Result FirstLine Fault) → paragraphs_of (passed_of text cursor) ≡ paragraphs_of (passed_of text before) → IsFirst text cursor result after left → IsFirst text before result after left
first_after text before cursor after left (Ok NoMore) same x = ((x.0.0, x.0.1 ∙ same), x.1)
first_after text before cursor after left (Ok (Buffered end next)) same x = (x.0, x.1 ∙ same)
first_after text before cursor after left (Ok (TooLong len)) same x = (x.0, (x.1.0, x.1.1 ∙ same), x.2, x.3)
first_after text before cursor after left (Err fault) same x = subst (λ n. IsReadersFault fault (λ refusal. (next_answer text n ≡ Err refusal) × (next_begin text n ≡ Err refusal))) (ap length same) x
