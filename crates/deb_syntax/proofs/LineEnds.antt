-- Where lines end: those of a run as it grows, those of a paragraph, and one after another.
use Rattle.deb_syntax.proofs.Common.{zero, subst, IsUtf8, AllByRecursion, ◌≡◌, ℕ, ◌+◌, ◌-◌, ◌<◌, ◌≤◌, suc, nat_le, Bool, true, false, cond, eqb, eqb-true, le-leb, lt-leb, cases_lt, inl, inr, List, [], ◌∷◌, ◌++◌, length, take, drop, slice_index, get_or, slice_range, refl, sym, ap, ◌∙◌, arith, length-drop, drop-drop, drop_all, drop_more, length-take-le, Line, newline, line_length, pieces_of, with_byte, total_length}
use Rattle.std.proofs.lemmas.List.{get_or-drop}
use Rattle.deb_syntax.specs.LineEnds.{ends_from, piece_ends}
use Rattle.deb_syntax.proofs.NextParagraph.{total-cons}

-- one line more
pub ends_from-push : (start : ℕ) (lines : List Line) (line : Line) → ends_from start (lines ++ line ∷ []) ≡ ends_from start lines ++ (start + total_length lines + length line) ∷ []
ends_from-push start [] line = let e : start + length line ≡ start + 0 + length line = omega arith in ap (λ n. n ∷ []) e
ends_from-push start (first ∷ lines) line =
    let e : start + line_length first + total_length lines + length line ≡ start + total_length (first ∷ lines) + length line = omega (arith, total-cons first lines) in
    ap (λ l. (start + length first) ∷ l) (ends_from-push (start + line_length first) lines line ∙ ap (λ n. ends_from (start + line_length first) lines ++ n ∷ []) e)

-- each line has one
pub length-ends_from : (start : ℕ) (lines : List Line) → length (ends_from start lines) ≡ length lines
length-ends_from start [] = refl
length-ends_from start (line ∷ lines) = ap suc (length-ends_from (start + line_length line) lines)

-- there are as many ends as lines
pub few_ends : (text ends : List ℕ) (lines : List Line) → ends ≡ piece_ends text → pieces_of text ≡ lines → length ends ≡ length lines
few_ends text ends lines is pieces = ap length is ∙ length-ends_from 0 (pieces_of text) ∙ ap length pieces

-- the pieces of a text from a line's begin on: there are none after the last one
abbrev pub pieces_from : List ℕ → ℕ → List Line
pieces_from text start = cond (nat_le start (length text)) (pieces_of (drop start text)) []

-- The first piece from `start` on ends at `end`, and the others at `ends`.
pub record IsLineAt (text : List ℕ) (start end : ℕ) (ends : List ℕ) : Type 0 where
  pub after : start ≤ end
  pub within : end ≤ length text
  pub stopped : end < length text → slice_index text end ≡ newline
  pub pieces : pieces_from text start ≡ slice_range text start end ∷ pieces_from text (end + 1)
  pub others : ends ≡ ends_from (end + 1) (pieces_from text (end + 1))

-- the first piece of a text, up to its first newline, and the others
record FirstPiece (text : List ℕ) : Type 0 where
  len : ℕ
  others : List Line
  within : len ≤ length text
  stopped : len < length text → slice_index text len ≡ newline
  pieces : pieces_of text ≡ take len text ∷ others
  none : length text ≤ len → others ≡ []
  more : len < length text → others ≡ pieces_of (drop (suc len) text)

first_piece : (text : List ℕ) → FirstPiece text
first_piece [] = record {
  len = 0;
  others = [];
  within = omega arith;
  stopped = λ lt. absurd (omega (arith, lt));
  pieces = refl;
  none = λ _. refl;
  more = λ lt. absurd (omega (arith, lt));
}
first_piece (b ∷ bs) = go (eqb b 10) refl (first_piece bs)
  where
    go : (t : Bool) → eqb b 10 ≡ t → FirstPiece bs → FirstPiece (b ∷ bs)
    go true e ih = record {
      len = 0;
      others = pieces_of bs;
      within = omega arith;
      stopped = λ _. eqb-true b 10 e;
      pieces = ap (λ t. cond t ([] ∷ pieces_of bs) (with_byte b (pieces_of bs))) e;
      none = λ le. absurd (omega (arith, le));
      more = λ _. refl;
    }
    go false e ih = record {
      len = suc ih.len;
      others = ih.others;
      within = omega (arith, ih.within);
      stopped = λ lt. ih.stopped (omega (arith, lt));
      pieces = ap (λ t. cond t ([] ∷ pieces_of bs) (with_byte b (pieces_of bs))) e ∙ ap (with_byte b) ih.pieces;
      none = λ le. ih.none (omega (arith, le));
      more = λ lt. ih.more (omega (arith, lt));
    }

pub pieces_from-some : (text : List ℕ) (start : ℕ) → start ≤ length text → pieces_from text start ≡ pieces_of (drop start text)
pieces_from-some text start le = ap (λ t. cond t (pieces_of (drop start text)) []) (le-leb start (length text) le)

pieces_from-none : (text : List ℕ) (start : ℕ) → length text < start → pieces_from text start ≡ []
pieces_from-none text start lt = ap (λ t. cond t (pieces_of (drop start text)) []) (lt-leb start (length text) lt)

-- where the first of the ends that are left is, a line ends
line_at : (text : List ℕ) (start end : ℕ) (ends : List ℕ) → end ∷ ends ≡ ends_from start (pieces_from text start) → IsLineAt text start end ends
line_at text start end ends is =
    elim (cases_lt (length text) start) [
      | inl beyond ↦
          let none : end ∷ ends ≡ [] = is ∙ ap (ends_from start) (pieces_from-none text start beyond) in
          let count : suc (length ends) ≡ 0 = ap length none in
          absurd (omega (arith, count))
      | inr le ↦
          let p = first_piece (drop start text) in
          let size = length-drop start text in
          let all : pieces_from text start ≡ take p.len (drop start text) ∷ p.others = pieces_from-some text start le ∙ p.pieces in
          let both : end ∷ ends ≡ ends_from start (take p.len (drop start text) ∷ p.others) = is ∙ ap (ends_from start) all in
          let len : length (take p.len (drop start text)) ≡ p.len = length-take-le p.len (drop start text) p.within in
          let at : end ≡ start + p.len = ap (λ l. get_or l 0 0) both ∙ ap (λ n. start + n) len in
          let count : p.len ≡ end - start = omega (arith, at) in
          let next : start + line_length (take p.len (drop start text)) ≡ end + 1 = omega (arith, at, len) in
          let others : p.others ≡ pieces_from text (end + 1) = elim (cases_lt p.len (length (drop start text))) [
            | inl lt ↦
                let over : start + suc p.len ≡ end + 1 = omega (arith, at) in
                p.more lt ∙ ap pieces_of (drop-drop (suc p.len) start text ∙ ap (λ n. drop n text) over) ∙ sym (pieces_from-some text (end + 1) (omega (arith, lt, size, at)))
            | inr ge ↦ p.none ge ∙ sym (pieces_from-none text (end + 1) (omega (arith, ge, size, at)))
          ] in
          record {
            after = omega (arith, at);
            within = omega (arith, at, size, p.within);
            stopped = λ lt. ap (slice_index text) at ∙ sym (get_or-drop start text p.len 0) ∙ p.stopped (omega (arith, lt, at, size));
            pieces = all ∙ ap (λ n. take n (drop start text) ∷ p.others) count ∙ ap (λ l. slice_range text start end ∷ l) others;
            others = ap (drop 1) both ∙ ap (λ n. ends_from n p.others) next ∙ ap (ends_from (end + 1)) others;
          }
    ]

-- the line that ends at the first of the ends that are left
pub next_line : (text ends : List ℕ) (start k : ℕ) → drop k ends ≡ ends_from start (pieces_from text start) → k < length ends → IsLineAt text start (get_or ends k 0) (drop (k + 1) ends)
next_line text ends start k left lt = line_at text start (get_or ends k 0) (drop (k + 1) ends) (sym (drop_more ends k 0 lt) ∙ left)

-- no line is left where no end is
pub no_line : (text ends : List ℕ) (start k : ℕ) → drop k ends ≡ ends_from start (pieces_from text start) → length ends ≤ k → pieces_from text start ≡ []
no_line text ends start k left le = go (pieces_from text start) (sym left ∙ drop_all k ends le)
  where
    go : (lines : List Line) → ends_from start lines ≡ [] → lines ≡ []
    go [] is = refl
    go (line ∷ lines) is = let count : suc (length (ends_from (start + line_length line) lines)) ≡ 0 = ap length is in absurd (omega (arith, count))

-- each line of a text that was checked as a whole is UTF-8
pub known_line : (text : List ℕ) (start end checked : ℕ) (ends : List ℕ) → IsLineAt text start end ends → (0 < checked → AllByRecursion IsUtf8 (pieces_from text start)) → end ≤ checked → IsUtf8 (slice_range text start end)
known_line text start zero checked ends line all le =
    let none : zero - start ≡ 0 = omega arith in
    subst (λ n. IsUtf8 (take n (drop start text))) (sym none) ([], (refl, refl))
known_line text start (suc end) checked ends line all le =
    (subst (λ lines. AllByRecursion IsUtf8 lines) line.pieces (all (omega (arith, le)))).0
