-- The lines of a text: none holds a newline, and together they give the text back.
use Rattle.deb_syntax.proofs.Common.{◌≡◌, ℕ, Bool, true, false, cond, eqb, List, [], ◌∷◌, refl, sym, ap, ◌∙◌, cond_both, AllByRecursion, Line, newline, with_byte, pieces_of, HasNoNewline, lines_of, with_newlines, with_last_newline}
use Rattle.std.proofs.Common.{eqb-true}
use Rattle.deb_syntax.proofs.LinesLaws.{HasFirst, with_byte-some}
use Rattle.deb_syntax.proofs.Runs.{lines_of-line}

with_byte-no_newline : (b : ℕ) (lines : List Line) → eqb b 10 ≡ false → AllByRecursion HasNoNewline lines → AllByRecursion HasNoNewline (with_byte b lines)
with_byte-no_newline b [] e h = ((e, tt), tt)
with_byte-no_newline b (line ∷ lines) e h = ((e, h.0), h.1)

-- no line of a text holds a newline
pub lines_of-no_newline : (text : List ℕ) → AllByRecursion HasNoNewline (lines_of text)
lines_of-no_newline [] = tt
lines_of-no_newline (b ∷ bs) = cond_both (eqb b 10) _ _ (AllByRecursion HasNoNewline) (λ _. (tt, lines_of-no_newline bs)) (λ e. with_byte-no_newline b (lines_of bs) e (lines_of-no_newline bs))

-- nor does a piece
pub pieces_of-no_newline : (text : List ℕ) → AllByRecursion HasNoNewline (pieces_of text)
pieces_of-no_newline [] = (tt, tt)
pieces_of-no_newline (b ∷ bs) = cond_both (eqb b 10) _ _ (AllByRecursion HasNoNewline) (λ _. (tt, pieces_of-no_newline bs)) (λ e. with_byte-no_newline b (pieces_of bs) e (pieces_of-no_newline bs))

pub lines_of-some : (b : ℕ) (bs : List ℕ) → HasFirst (lines_of (b ∷ bs))
lines_of-some b bs = cond_both (eqb b 10) _ _ HasFirst (λ _. ([], lines_of bs, refl)) (λ _. with_byte-some b (lines_of bs))

-- the lines of a text, each with its newline, are the text with its last newline
pub with_newlines-lines_of : (text : List ℕ) → with_newlines (lines_of text) ≡ with_last_newline text
with_newlines-lines_of [] = refl
with_newlines-lines_of (b ∷ []) = go (eqb b 10) refl
  where
    go : (t : Bool) → eqb b 10 ≡ t → with_newlines (cond t ([] ∷ []) ((b ∷ []) ∷ [])) ≡ cond t (b ∷ []) (b ∷ newline ∷ [])
    go true e = ap (λ c. c ∷ []) (sym (eqb-true b 10 e))
    go false e = refl
with_newlines-lines_of (b ∷ c ∷ bs) = go (eqb b 10) refl (lines_of-some c bs) (with_newlines-lines_of (c ∷ bs))
  where
    go : (t : Bool) → eqb b 10 ≡ t → (line : Line) × (lines : List Line) × (lines_of (c ∷ bs) ≡ line ∷ lines) → with_newlines (lines_of (c ∷ bs)) ≡ with_last_newline (c ∷ bs) → with_newlines (cond t ([] ∷ lines_of (c ∷ bs)) (with_byte b (lines_of (c ∷ bs)))) ≡ b ∷ with_last_newline (c ∷ bs)
    go true e some rest = ap (λ text. 10 ∷ text) rest ∙ ap (λ d. d ∷ with_last_newline (c ∷ bs)) (sym (eqb-true b 10 e))
    go false e some rest = ap (λ ls. with_newlines (with_byte b ls)) some.2 ∙ ap (λ text. b ∷ text) (sym (ap with_newlines some.2) ∙ rest)

-- lines without newlines are the lines of the text that they make
pub lines_of-with_newlines : (lines : List Line) → AllByRecursion HasNoNewline lines → lines_of (with_newlines lines) ≡ lines
lines_of-with_newlines [] h = refl
lines_of-with_newlines (line ∷ lines) h = lines_of-line line (with_newlines lines) h.0 ∙ ap (λ ls. line ∷ ls) (lines_of-with_newlines lines h.1)
