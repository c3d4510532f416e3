-- The paragraphs of lines that follow others, and what a refusal of one paragraph says of the whole text.
use Rattle.deb_syntax.proofs.Common.{◌≡◌, ◌≢◌, ℕ, ◌+◌, ◌≤◌, Bool, true, false, cond, List, [], ◌∷◌, ◌++◌, length, refl, sym, ap, ◌∙◌, arith, append-nil, sum_by-append, Line, is_blank, line_length, Paragraph, begins_blank, ends_blank, with_line, paragraphs_from, total_length, AreBlank, AreNotBlank}
use Rattle.deb_syntax.proofs.Runs.{paragraphs_from-blanks, paragraphs_from-run}

-- the length of lines, with the first taken apart
pub total-cons : (line : Line) (lines : List Line) → total_length (line ∷ lines) ≡ total_length (line ∷ []) + total_length lines
total-cons line lines = sum_by-append line_length (line ∷ []) lines

-- a line that isn't blank gives a paragraph
pub some_paragraph : (n : ℕ) (line : Line) (b : Bool) (ps : List Paragraph) → (p : Paragraph) × (qs : List Paragraph) × (with_line n line b ps ≡ p ∷ qs) × (total_length (line ∷ []) ≤ total_length p.lines)
some_paragraph n line true ps = (record { first = n; lines = line ∷ [] }, ps, refl, omega arith)
some_paragraph n line false [] = (record { first = n; lines = line ∷ [] }, [], refl, omega arith)
some_paragraph n line false (p ∷ ps) = (record { first = n; lines = line ∷ p.lines }, ps, refl, omega (arith, total-cons line p.lines))

-- paragraphs after a list of paragraphs to which the line is joined
with_line-append : (n : ℕ) (line : Line) (b : Bool) (ps qs : List Paragraph) → (b ≡ false → ps ≢ []) → with_line n line b (ps ++ qs) ≡ with_line n line b ps ++ qs
with_line-append n line true ps qs some = refl
with_line-append n line false [] qs some = absurd (some refl refl)
with_line-append n line false (p ∷ ps) qs some = refl

not_nil : (ps qs : List Paragraph) (p : Paragraph) → ps ≡ p ∷ qs → ps ≢ []
not_nil ps qs p e h = let f : p ∷ qs ≡ [] = sym e ∙ h in cc

not_blank-some : (m : ℕ) (line : Line) (lines : List Line) → is_blank line ≡ false → paragraphs_from m (line ∷ lines) ≢ []
not_blank-some m line lines h =
    let s = some_paragraph m line (begins_blank lines) (paragraphs_from (m + 1) lines) in
    not_nil _ s.1 s.0 (rw h s.2)

-- paragraphs of lines after a blank line
pub paragraphs_from-append : (n : ℕ) (a b : List Line) → ends_blank a ≡ true → paragraphs_from n (a ++ b) ≡ paragraphs_from n a ++ paragraphs_from (n + length a) b
paragraphs_from-append n [] b h = ap (λ k. paragraphs_from k b) (omega arith)
paragraphs_from-append n (line ∷ []) b h = rw h refl
paragraphs_from-append n (line ∷ next ∷ a) b h =
    let count : n + 1 + length (next ∷ a) ≡ n + length (line ∷ next ∷ a) = omega arith in
    let ih : paragraphs_from (n + 1) ((next ∷ a) ++ b) ≡ paragraphs_from (n + 1) (next ∷ a) ++ paragraphs_from (n + length (line ∷ next ∷ a)) b
    = paragraphs_from-append (n + 1) (next ∷ a) b h ∙ ap (λ k. paragraphs_from (n + 1) (next ∷ a) ++ paragraphs_from k b) count in
    elim (is_blank line) as (λ t. cond t (paragraphs_from (n + 1) ((next ∷ a) ++ b)) (with_line n line (is_blank next) (paragraphs_from (n + 1) ((next ∷ a) ++ b)))
    ≡ cond t (paragraphs_from (n + 1) (next ∷ a)) (with_line n line (is_blank next) (paragraphs_from (n + 1) (next ∷ a))) ++ paragraphs_from (n + length (line ∷ next ∷ a)) b) [
      | true ↦ ih
      | false ↦ ap (with_line n line (is_blank next)) ih ∙ with_line-append n line (is_blank next) (paragraphs_from (n + 1) (next ∷ a)) _ (not_blank-some (n + 1) next a)
    ]

-- blank lines end blank, and begin so
pub blank-ends : (lines : List Line) → AreBlank lines → ends_blank lines ≡ true
blank-ends [] h = refl
blank-ends (line ∷ []) h = h.0
blank-ends (line ∷ next ∷ lines) h = blank-ends (next ∷ lines) h.1

pub ends_blank-append : (a b : List Line) → b ≢ [] → ends_blank b ≡ true → ends_blank (a ++ b) ≡ true
ends_blank-append a [] some h = absurd (some refl)
ends_blank-append [] (line ∷ b) some h = h
ends_blank-append (x ∷ []) (line ∷ b) some h = h
ends_blank-append (x ∷ y ∷ a) (line ∷ b) some h = ends_blank-append (y ∷ a) (line ∷ b) some h

-- only blank lines give no paragraph
pub no_paragraph : (n : ℕ) (lines : List Line) → AreBlank lines → paragraphs_from n lines ≡ []
no_paragraph n lines h = ap (paragraphs_from n) (sym (append-nil lines)) ∙ paragraphs_from-blanks n lines [] h

-- blank lines, a run, and what begins blank: the run's paragraph comes first
pub next_paragraph : (n : ℕ) (blanks run rest : List Line) → AreBlank blanks → AreNotBlank run → run ≢ [] → begins_blank rest ≡ true → paragraphs_from n (blanks ++ (run ++ rest)) ≡ record { first = n + length blanks; lines = run } ∷ paragraphs_from (n + length blanks + length run) rest
next_paragraph n blanks [] rest before not_blank some begins = absurd (some refl)
next_paragraph n blanks (line ∷ run) rest before not_blank some begins =
    paragraphs_from-blanks n blanks ((line ∷ run) ++ rest) before ∙ paragraphs_from-run (n + length blanks) line run rest not_blank begins
