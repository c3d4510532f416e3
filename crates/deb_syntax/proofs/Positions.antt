-- Where a reader is in a text: what a line, or more, takes it on.
use Rattle.deb_syntax.proofs.Common.{inl, inr, ◌-◌, ◌∷◌, arith, length, part_within, paragraphs_from, paragraphs_of, paragraphs_within, passed_count, next_answer, next_begin, left_answer, left_begin, Paragraph, file_limit, ◌≡◌, ℕ, ◌+◌, ◌≤◌, ◌⊎◌, Bool, List, [], ◌++◌, Option, Some, None, take, sym, ap, ◌∙◌, subst, append_assoc, IsTrue, take-append_seam, Consumes, IsAtEnd, HasNoNewline, At, ReadsLine, KeepsCounts, Seen, CursorState, Fault, Fits, IsClosed, lines_of, passed_of, state_from, refl}
use Rattle.deb_syntax.proofs.CursorLemmas.{consumed_rest, at_end_rest}
use Rattle.deb_syntax.proofs.LeftAnswers.{next_answer-left, next_begin-left, left-paragraphs, left-empty}
use Rattle.deb_syntax.proofs.Passing.{IsBehind, IsCut, cut_more}

pub at_cut : (text dropped : List ℕ) (cursor : CursorState) (left : Option (List ℕ)) (a : At text dropped cursor left) → IsCut text (passed_of text cursor) (dropped ++ (cursor.unread ++ a.rest)) cursor.bytes cursor.lines
at_cut text dropped cursor left a = record { whole = a.whole; bytes = a.bytes; lines = a.lines; behind = a.closed }

-- what has passed is the first bytes
cut_take : (text passed ahead : List ℕ) (count lines : ℕ) → IsCut text passed ahead count lines → take count text ≡ passed
cut_take text passed ahead count lines c = ap (λ n. take n text) c.bytes ∙ ap (take (length passed)) c.whole ∙ take-append_seam passed ahead

pub cut_at : (text passed dropped rest : List ℕ) (cursor : CursorState) (left : Option (List ℕ)) → left ≡ Some rest → IsCut text passed (dropped ++ (cursor.unread ++ rest)) cursor.bytes cursor.lines → (IsTrue cursor.ended → rest ≡ []) → At text dropped cursor left × (passed_of text cursor ≡ passed)
cut_at text passed dropped rest cursor left told c ended =
    let is = cut_take text passed _ cursor.bytes cursor.lines c in
    let same : IsCut text (passed_of text cursor) (dropped ++ (cursor.unread ++ rest)) cursor.bytes cursor.lines = subst (λ p. IsCut text p (dropped ++ (cursor.unread ++ rest)) cursor.bytes cursor.lines) (sym is) c in
    (record { rest = rest; told = told; whole = same.whole; bytes = same.bytes; lines = same.lines; closed = same.behind; ended = ended }, is)

-- a part of what is ahead passes
pub at_moves : (text dropped next front rest : List ℕ) (before after : CursorState) (left left_after : Option (List ℕ)) (a : At text dropped before left) → left_after ≡ Some rest → dropped ++ (before.unread ++ a.rest) ≡ front ++ (next ++ (after.unread ++ rest)) → (IsClosed front ⊎ (next ++ (after.unread ++ rest) ≡ [])) → after.bytes ≡ before.bytes + length front → after.lines ≡ before.lines + length (lines_of front) → (IsTrue after.ended → rest ≡ []) → IsCut text (passed_of text before ++ front) (next ++ (after.unread ++ rest)) after.bytes after.lines
at_moves text dropped next front rest before after left left_after a told is closed bytes lines ended =
    let c = cut_more text (passed_of text before) _ before.bytes before.lines (at_cut text dropped before left a) front _ is closed in
    record { whole = c.whole; bytes = bytes ∙ c.bytes; lines = lines ∙ c.lines; behind = c.behind }

-- a text that fits, and the reader in it
module _ (text passed : List ℕ) (cursor : CursorState) (overlong_len : ℕ) (finished : Bool) (current : Option Seen) (fault : Option Fault) (left : Option (List ℕ)) where
  pub fits_cut : (fits : Fits text passed (state_from cursor overlong_len finished current fault) left) → IsCut text passed (fits.overlong ++ (cursor.unread ++ fits.rest)) cursor.bytes cursor.lines
  fits_cut fits = record { whole = fits.whole; bytes = fits.bytes; lines = fits.lines; behind = fits.closed }

  pub fits_at : (fits : Fits text passed (state_from cursor overlong_len finished current fault) left) → At text fits.overlong cursor left × (passed_of text cursor ≡ passed)
  fits_at fits = cut_at text passed fits.overlong fits.rest cursor left fits.told (fits_cut fits) fits.ended

  -- no bytes were dropped
  pub plain_at : overlong_len ≡ 0 → (fits : Fits text passed (state_from cursor overlong_len finished current fault) left) → At text [] cursor left × (passed_of text cursor ≡ passed)
  plain_at none fits = let a = fits_at fits in (subst (λ zs. At text zs cursor left) (no_bytes fits.overlong (fits.overlong_bytes ∙ none)) a.0, a.1)
    where
      no_bytes : (bytes : List ℕ) → length bytes ≡ 0 → bytes ≡ []
      no_bytes [] e = refl
      no_bytes (b ∷ bs) e = absurd (omega (arith, e))

  pub cut_fits : (dropped rest : List ℕ) → IsCut text passed (dropped ++ (cursor.unread ++ rest)) cursor.bytes cursor.lines → left ≡ Some rest → (IsTrue cursor.ended → rest ≡ []) → length dropped ≡ overlong_len → HasNoNewline dropped → (IsTrue finished → dropped ++ (cursor.unread ++ rest) ≡ []) → Fits text passed (state_from cursor overlong_len finished current fault) left
  cut_fits dropped rest c told ended len line ends = record {
    overlong = dropped;
    rest = rest;
    told = told;
    whole = c.whole;
    bytes = c.bytes;
    lines = c.lines;
    overlong_bytes = len;
    overlong_line = line;
    closed = c.behind;
    ended = ended;
    finished = ends;
  }

-- what came of a source, said of what it has left
module _ (text dropped : List ℕ) (before after : CursorState) (left left_after : Option (List ℕ)) (a : At text dropped before left) (k : KeepsCounts before left after left_after) where
  pub rest_after : (came : List ℕ) → Consumes left left_after came → (rest : List ℕ) × (left_after ≡ Some rest) × (a.rest ≡ came ++ rest) × (IsTrue after.ended → rest ≡ [])
  rest_after came consumed =
      let next = consumed_rest a.rest came left left_after a.told consumed in
      (next.0, next.1, next.2, λ e. at_end_rest next.0 left_after next.1 (k.at_end (λ f. at_end left a.told (a.ended f)) e))
    where
      at_end : (o : Option (List ℕ)) → o ≡ Some a.rest → a.rest ≡ [] → IsAtEnd o
      at_end None is none = absurd cc
      at_end (Some xs) is none = let same : xs ≡ a.rest = cc in same ∙ none

  -- a line that follows the kept bytes
  pub line_ahead : (kept : ℕ) (r : ReadsLine kept before left after left_after) → (rest : List ℕ) × (left_after ≡ Some rest) × (before.unread ++ a.rest ≡ (take kept before.unread ++ (r.line ++ r.ending)) ++ (r.more ++ rest)) × (IsTrue after.ended → rest ≡ [])
  line_ahead kept r =
      let next = rest_after r.came r.consumed in
      let kept_bytes = take kept before.unread in (
        next.0,
        next.1,
        ap (λ zs. before.unread ++ zs) next.2 ∙ sym (append_assoc before.unread r.came next.0) ∙ ap (λ zs. zs ++ next.0) (r.whole ∙ ap (λ zs. kept_bytes ++ zs) (sym (append_assoc r.line r.ending r.more)) ∙ sym (append_assoc kept_bytes (r.line ++ r.ending) r.more)) ∙ append_assoc (kept_bytes ++ (r.line ++ r.ending)) r.more next.0,
        next.3,
      )

  -- where more came and nothing has passed, the reader stays where it is
  pub at_more : (came : List ℕ) → Consumes left left_after came → after.unread ≡ before.unread ++ came → At text dropped after left_after
  at_more came consumed unread =
      let next = rest_after came consumed in
      let same : dropped ++ (before.unread ++ a.rest) ≡ dropped ++ (after.unread ++ next.0) = ap (λ zs. dropped ++ zs) (ap (λ zs. before.unread ++ zs) next.2 ∙ sym (append_assoc before.unread came next.0) ∙ ap (λ zs. zs ++ next.0) (sym unread)) in
      let c = at_cut text dropped before left a in
      let moved : IsCut text (passed_of text before) (dropped ++ (after.unread ++ next.0)) after.bytes after.lines = record {
        whole = c.whole ∙ ap (λ zs. passed_of text before ++ zs) same;
        bytes = k.bytes ∙ c.bytes;
        lines = k.lines ∙ c.lines;
        behind = subst (λ zs. IsClosed (passed_of text before) ⊎ (zs ≡ [])) same c.behind;
      } in
      (cut_at text (passed_of text before) dropped next.0 after left_after next.1 moved next.3).0

-- the answers are those on what is ahead
module _ (text passed ahead : List ℕ) (count lines : ℕ) (cut : IsCut text passed ahead count lines) (small : count ≤ file_limit) where
  pub answer_ahead : next_answer text (passed_count passed) ≡ left_answer (lines + 1) (file_limit - count) ahead
  answer_ahead =
      let number : 1 + length (lines_of passed) ≡ lines + 1 = omega (arith, cut.lines) in
      let room : file_limit - length passed ≡ file_limit - count = ap (λ n. file_limit - n) (sym cut.bytes) in
      ap (λ t. next_answer t (passed_count passed)) cut.whole ∙ next_answer-left passed ahead cut.behind (omega (arith, cut.bytes))
      ∙ ap (λ n. left_answer n (file_limit - length passed) ahead) number ∙ ap (λ r. left_answer (lines + 1) r ahead) room

  pub begin_ahead : next_begin text (passed_count passed) ≡ left_begin (lines + 1) (file_limit - count) ahead
  begin_ahead =
      let number : 1 + length (lines_of passed) ≡ lines + 1 = omega (arith, cut.lines) in
      let room : file_limit - length passed ≡ file_limit - count = ap (λ n. file_limit - n) (sym cut.bytes) in
      ap (λ t. next_begin t (passed_count passed)) cut.whole ∙ next_begin-left passed ahead cut.behind (omega (arith, cut.bytes))
      ∙ ap (λ n. left_begin n (file_limit - length passed) ahead) number ∙ ap (λ r. left_begin (lines + 1) r ahead) room

  -- the paragraphs that are looked at, from the first that is ahead on
  pub paragraphs_ahead : (p : Paragraph) (more : List Paragraph) → paragraphs_from (lines + 1) (lines_of (part_within (file_limit - count) ahead)) ≡ p ∷ more → paragraphs_within text ≡ paragraphs_of passed ++ p ∷ more
  paragraphs_ahead p more found =
      let number : lines + 1 ≡ 1 + length (lines_of passed) = omega (arith, cut.lines) in
      let room : file_limit - count ≡ file_limit - length passed = ap (λ n. file_limit - n) cut.bytes in
      let at : paragraphs_from (1 + length (lines_of passed)) (lines_of (part_within (file_limit - length passed) ahead)) ≡ p ∷ more
      = ap (λ n. paragraphs_from n (lines_of (part_within (file_limit - length passed) ahead))) (sym number) ∙ ap (λ r. paragraphs_from (lines + 1) (lines_of (part_within r ahead))) (sym room) ∙ found in
      go cut.behind at
    where
      go : IsBehind passed ahead → paragraphs_from (1 + length (lines_of passed)) (lines_of (part_within (file_limit - length passed) ahead)) ≡ p ∷ more → paragraphs_within text ≡ paragraphs_of passed ++ p ∷ more
      go (inl closed) at =
          ap paragraphs_within cut.whole ∙ left-paragraphs 1 file_limit passed ahead closed (omega (arith, cut.bytes)) ∙ ap (λ ps. paragraphs_of passed ++ ps) at
      go (inr none) at =
          let empty : paragraphs_from (1 + length (lines_of passed)) (lines_of (part_within (file_limit - length passed) [])) ≡ []
          = left-empty (λ _ ps. ps) (1 + length (lines_of passed)) (file_limit - length passed) in
          let bad : p ∷ more ≡ [] = sym at ∙ ap (λ t. paragraphs_from (1 + length (lines_of passed)) (lines_of (part_within (file_limit - length passed) t))) none ∙ empty in
          absurd cc
