-- Cutting a text after whole lines.
use Rattle.deb_syntax.proofs.Common.{◌≡◌, ℕ, ◌+◌, ◌≤◌, ◌==◌, true, false, cond, List, [], ◌∷◌, ◌++◌, length, refl, sym, ap, ◌∙◌, subst, append_assoc, arith, length-append, sum_by-append, Line, line_length, newline, with_byte, pieces_of, lines_of, ends_line, with_newlines, with_last_newline, total_length}
use Rattle.deb_syntax.proofs.LinesLawsTexts.{lines_of-some, with_newlines-lines_of}

with_byte-append : (b : ℕ) (ls ks : List Line) (l : Line) (rest : List Line) → ls ≡ l ∷ rest → with_byte b (ls ++ ks) ≡ with_byte b ls ++ ks
with_byte-append b ls ks l rest e = rw e refl

-- lines after whole lines
pub lines_of-append : (a b : List ℕ) → ends_line a ≡ true → lines_of (a ++ b) ≡ lines_of a ++ lines_of b
lines_of-append [] b h = refl
lines_of-append (x ∷ []) b h = rw h refl
lines_of-append (x ∷ y ∷ a) b h =
    let ih = lines_of-append (y ∷ a) b h in
    let f = lines_of-some y a in
    elim (x == newline) as (λ t. cond t ([] ∷ lines_of ((y ∷ a) ++ b)) (with_byte x (lines_of ((y ∷ a) ++ b))) ≡ cond t ([] ∷ lines_of (y ∷ a)) (with_byte x (lines_of (y ∷ a))) ++ lines_of b) [
      | true ↦ ap (λ ls. [] ∷ ls) ih
      | false ↦ ap (with_byte x) ih ∙ with_byte-append x (lines_of (y ∷ a)) (lines_of b) f.0 f.1 f.2
    ]

-- the same of pieces
pub pieces_of-append : (a b : List ℕ) → ends_line a ≡ true → pieces_of (a ++ b) ≡ lines_of a ++ pieces_of b
pieces_of-append [] b h = refl
pieces_of-append (x ∷ []) b h = rw h refl
pieces_of-append (x ∷ y ∷ a) b h =
    let ih = pieces_of-append (y ∷ a) b h in
    let f = lines_of-some y a in
    elim (x == newline) as (λ t. cond t ([] ∷ pieces_of ((y ∷ a) ++ b)) (with_byte x (pieces_of ((y ∷ a) ++ b))) ≡ cond t ([] ∷ lines_of (y ∷ a)) (with_byte x (lines_of (y ∷ a))) ++ pieces_of b) [
      | true ↦ ap (λ ls. [] ∷ ls) ih
      | false ↦ ap (with_byte x) ih ∙ with_byte-append x (lines_of (y ∷ a)) (pieces_of b) f.0 f.1 f.2
    ]

-- the bytes of whole lines are their lengths together
length-with_newlines : (lines : List Line) → length (with_newlines lines) ≡ total_length lines
length-with_newlines [] = refl
length-with_newlines (line ∷ lines) =
    let ih = length-with_newlines lines in
    let both = length-append line (newline ∷ with_newlines lines) in
    let one : length (newline ∷ with_newlines lines) ≡ total_length lines + 1 = omega arith in
    let sum : total_length (line ∷ lines) ≡ total_length (line ∷ []) + total_length lines = sum_by-append line_length (line ∷ []) lines in
    let first : total_length (line ∷ []) ≡ length line + 1 = grind arith in
    omega arith

last_newline-stays : (a : List ℕ) → ends_line a ≡ true → with_last_newline a ≡ a
last_newline-stays [] h = refl
last_newline-stays (b ∷ []) h = rw h refl
last_newline-stays (b ∷ c ∷ bs) h = ap (λ zs. b ∷ zs) (last_newline-stays (c ∷ bs) h)

pub total-whole : (a : List ℕ) → ends_line a ≡ true → total_length (lines_of a) ≡ length a
total-whole a h = sym (length-with_newlines (lines_of a)) ∙ ap length (with_newlines-lines_of a ∙ last_newline-stays a h)

-- a line has a byte at least
pub few_lines : (text : List ℕ) → length (lines_of text) ≤ length text
few_lines [] = omega arith
few_lines (b ∷ bs) = let ih = few_lines bs in elim (b == newline) as (λ t. length (cond t ([] ∷ lines_of bs) (with_byte b (lines_of bs))) ≤ length (b ∷ bs)) [ true ↦ omega arith | false ↦ go (lines_of bs) ih ]
  where
    go : (lines : List Line) → length lines ≤ length bs → length (with_byte b lines) ≤ length (b ∷ bs)
    go [] h = omega arith
    go (line ∷ lines) h = omega (arith, h)

ends_line-newline : (line : List ℕ) → ends_line (line ++ newline ∷ []) ≡ true
ends_line-newline [] = refl
ends_line-newline (x ∷ []) = refl
ends_line-newline (x ∷ y ∷ line) = ends_line-newline (y ∷ line)

pub ends_line-append : (a line : List ℕ) → ends_line (a ++ (line ++ newline ∷ [])) ≡ true
ends_line-append a line = subst (λ t. ends_line t ≡ true) (append_assoc a line (newline ∷ [])) (ends_line-newline (a ++ line))

pub ends_line-both : (a b : List ℕ) → ends_line a ≡ true → ends_line b ≡ true → ends_line (a ++ b) ≡ true
ends_line-both [] b h k = k
ends_line-both (x ∷ []) [] h k = h
ends_line-both (x ∷ []) (y ∷ b) h k = k
ends_line-both (x ∷ y ∷ a) b h k = ends_line-both (y ∷ a) b h k
