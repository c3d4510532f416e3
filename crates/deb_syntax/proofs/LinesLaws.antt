-- Pieces and lines of a text, and what joins them back.
use Rattle.deb_syntax.proofs.Common.{◌≡◌, ℕ, Bool, true, false, cond, eqb, List, [], ◌∷◌, ◌++◌, refl, sym, ap, ◌∙◌, cond_both, join_with_byte-slice_split, AllByRecursion, Line, newline, with_byte, pieces_of, joined, HasNoNewline, slice_split-pieces_of}
use Rattle.deb_syntax.proofs.Runs.{pieces_of-line, pieces_of-last}

-- a text before the first of the lines, and one after the last
abbrev pub with_front : List ℕ → List Line → List Line
with_front text [] = text ∷ []
with_front text (line ∷ lines) = (text ++ line) ∷ lines

abbrev pub with_end : List Line → List ℕ → List Line
with_end [] text = []
with_end (line ∷ []) text = (line ++ text) ∷ []
with_end (line ∷ next ∷ lines) text = line ∷ with_end (next ∷ lines) text

-- lines with a first one
abbrev pub HasFirst : List Line → Type 0
HasFirst lines = (first : Line) × (others : List Line) × (lines ≡ first ∷ others)

pub with_byte-some : (b : ℕ) (lines : List Line) → HasFirst (with_byte b lines)
with_byte-some b [] = (b ∷ [], [], refl)
with_byte-some b (line ∷ lines) = (b ∷ line, lines, refl)

pub pieces_of-some : (text : List ℕ) → HasFirst (pieces_of text)
pieces_of-some [] = ([], [], refl)
pieces_of-some (b ∷ bs) = cond_both (eqb b 10) _ _ HasFirst (λ _. ([], pieces_of bs, refl)) (λ _. with_byte-some b (pieces_of bs))

-- the pieces of a text, joined by newlines, are the text
pub joined-pieces_of : (text : List ℕ) → joined (pieces_of text) ≡ text
joined-pieces_of text = ap joined (sym (slice_split-pieces_of text)) ∙ join_with_byte-slice_split newline text

-- a text without newline before another one
pub pieces_of-front : (line text : List ℕ) → HasNoNewline line → pieces_of (line ++ text) ≡ with_front line (pieces_of text)
pieces_of-front [] text none = let some = pieces_of-some text in rw some.2
pieces_of-front (b ∷ line) text none = let some = pieces_of-some text in rw (none.0, pieces_of-front line text none.1, some.2)

-- lines that are joined have these lines as their pieces
pub pieces_of-joined : (line : Line) (lines : List Line) → AllByRecursion HasNoNewline (line ∷ lines) → pieces_of (joined (line ∷ lines)) ≡ line ∷ lines
pieces_of-joined line [] none = pieces_of-last line none.0
pieces_of-joined line (next ∷ lines) none = pieces_of-line line (joined (next ∷ lines)) none.0 ∙ ap (λ ls. line ∷ ls) (pieces_of-joined next lines none.1)

-- a text without newline after another one
pub pieces_of-end : (text line : List ℕ) → HasNoNewline line → pieces_of (text ++ line) ≡ with_end (pieces_of text) line
pieces_of-end [] line none = pieces_of-last line none
pieces_of-end (b ∷ bs) line none =
    let some = pieces_of-some bs in
    rw (pieces_of-end bs line none, some.2) (both (eqb b 10) some.0 some.1)
  where
    both : (t : Bool) (first : Line) (others : List Line) → cond t ([] ∷ with_end (first ∷ others) line) (with_byte b (with_end (first ∷ others) line)) ≡ with_end (cond t ([] ∷ first ∷ others) ((b ∷ first) ∷ others)) line
    both true first others = refl
    both false first [] = refl
    both false first (next ∷ others) = refl
