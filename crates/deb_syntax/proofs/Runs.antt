-- The lines of a text that is put together from lines, and the paragraphs of lines that are put together from runs.
use Rattle.deb_syntax.proofs.Common.{◌≡◌, ℕ, ◌+◌, Bool, true, false, cond, List, [], ◌∷◌, ◌++◌, length, refl, ap, ◌∙◌, arith, AllByRecursion, Line, newline, with_byte, pieces_of, HasNoNewline, is_blank, lines_of, Paragraph, begins_blank, with_line, paragraphs_from}

-- a line with its newline comes first among the lines
pub lines_of-line : (line rest : List ℕ) → HasNoNewline line → lines_of (line ++ newline ∷ rest) ≡ line ∷ lines_of rest
lines_of-line [] rest h = refl
lines_of-line (b ∷ line) rest h = rw h.0 (ap (with_byte b) (lines_of-line line rest h.1))

-- the same of pieces
pub pieces_of-line : (line rest : List ℕ) → HasNoNewline line → pieces_of (line ++ newline ∷ rest) ≡ line ∷ pieces_of rest
pieces_of-line [] rest h = refl
pieces_of-line (b ∷ line) rest h = rw h.0 (ap (with_byte b) (pieces_of-line line rest h.1))

-- a text without a newline is its own one piece
pub pieces_of-last : (line : List ℕ) → HasNoNewline line → pieces_of line ≡ line ∷ []
pieces_of-last [] h = refl
pieces_of-last (b ∷ line) h = rw h.0 (ap (with_byte b) (pieces_of-last line h.1))

-- a nonempty text without a newline is its own one line
pub lines_of-last : (b : ℕ) (line : List ℕ) → HasNoNewline (b ∷ line) → lines_of (b ∷ line) ≡ (b ∷ line) ∷ []
lines_of-last b [] h = rw h.0 refl
lines_of-last b (c ∷ line) h = rw h.0 (ap (with_byte b) (lines_of-last c line h.1))

-- blank lines are passed over
pub paragraphs_from-blanks : (n : ℕ) (blanks rest : List Line) → AllByRecursion (λ line. is_blank line ≡ true) blanks → paragraphs_from n (blanks ++ rest) ≡ paragraphs_from (n + length blanks) rest
paragraphs_from-blanks n [] rest h = ap (λ k. paragraphs_from k rest) (omega arith)
paragraphs_from-blanks n (line ∷ blanks) rest h =
    rw h.0 (paragraphs_from-blanks (n + 1) blanks rest h.1 ∙ ap (λ k. paragraphs_from k rest) (omega arith))

-- a line that isn't blank joins the paragraph of the next line, if that isn't blank
pub joins : (n : ℕ) (line : Line) (b c : Bool) (others ps qs : List Paragraph) (p : Paragraph) → b ≡ false → c ≡ false → ps ≡ p ∷ qs → cond b others (with_line n line c ps) ≡ record { first = n; lines = line ∷ p.lines } ∷ qs
joins n line b c others ps qs p hb hc hp = rw (hb, hc, hp) refl

-- a run of lines that aren't blank is a paragraph, where a blank line or the end follows
pub paragraphs_from-run : (n : ℕ) (line : Line) (run rest : List Line) → AllByRecursion (λ line. is_blank line ≡ false) (line ∷ run) → begins_blank rest ≡ true → paragraphs_from n ((line ∷ run) ++ rest) ≡ record { first = n; lines = line ∷ run } ∷ paragraphs_from (n + length (line ∷ run)) rest
paragraphs_from-run n line [] rest h e = rw (h.0, e) refl
paragraphs_from-run n line (next ∷ run) rest h e =
    joins n line (is_blank line) (is_blank next) _ _ _ _ h.0 h.1.0 (paragraphs_from-run (n + 1) next run rest h.1 e)
    ∙ ap (λ k. record { first = n; lines = line ∷ next ∷ run } ∷ paragraphs_from k rest) (omega arith)
