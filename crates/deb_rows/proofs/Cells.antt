-- Where a cell ends.
use Rattle.std.proofs.Common.{◌≡◌, ◌≤◌, ◌+◌, ◌-◌, ℕ, Bool, true, false, cond, List, [], ◌∷◌, ◌++◌, length, take, drop, get_or, eqb, refl, sym, ap, ◌∙◌, arith, inl, inr}
use Rattle.std.specs.Prelude.{◌==◌, ◌&&◌}
use Rattle.std.proofs.lemmas.Bool.{cases_Bool}
use Rattle.std.specs.Prelude.{Some, None}
use Rattle.std.specs.List.{starts_with}
use Rattle.std.proofs.lemmas.List.{take_rest}
use Rattle.deb_rows.specs.Cells.{stops, cell_of, ends_with_colon, fits}
use Rattle.deb_rows.specs.Reads.{read_cell}
use Rattle.deb_rows.specs.declared.cell.Class.{Class}

-- the last byte decides
last_colon : (b : ℕ) (bs : List ℕ) → (get_or (b ∷ bs) (length bs) 0 == 58) ≡ ends_with_colon (b ∷ bs)
last_colon b [] = refl
last_colon b (c ∷ cs) = last_colon c cs

pub at_last-colon : (text : List ℕ) (n : ℕ) → length text ≡ n + 1 → (get_or text n 0 == 58) ≡ ends_with_colon text
at_last-colon [] n e = absurd (omega (arith, e))
at_last-colon (b ∷ bs) n e = let same : n ≡ length bs = omega (arith, e) in rw same (last_colon b bs)

pub more_than_none : (text : List ℕ) → (length text == 0) ≡ false → length text ≡ (length text - 1) + 1
more_than_none [] e = cc e
more_than_none (b ∷ bs) e = omega arith

-- the length of a cell by its first byte
pub length-stopped : (class : Class) (b : ℕ) (bs : List ℕ) → stops class b bs ≡ true → length (cell_of class (b ∷ bs)) ≡ 0
length-stopped class b bs e = rw e refl

pub length-goes_on : (class : Class) (b : ℕ) (bs : List ℕ) → stops class b bs ≡ false → length (cell_of class (b ∷ bs)) ≡ length (cell_of class bs) + 1
length-goes_on class b bs e = rw e (omega arith)

pub length-cell_of-le : (class : Class) (text : List ℕ) → length (cell_of class text) ≤ length text
length-cell_of-le class [] = omega arith
length-cell_of-le class (b ∷ bs) = elim (cases_Bool (stops class b bs)) [
  | inl e ↦ rw e (omega arith)
  | inr e ↦ rw e (omega (arith, length-cell_of-le class bs))
]

-- a cell is the start of its text
pub cell_of-append-drop : (class : Class) (text : List ℕ) → text ≡ cell_of class text ++ drop (length (cell_of class text)) text
cell_of-append-drop class [] = refl
cell_of-append-drop class (b ∷ bs) = elim (cases_Bool (stops class b bs)) [
  | inl e ↦ rw e refl
  | inr e ↦ rw e (ap (λ l. b ∷ l) (cell_of-append-drop class bs))
]

pub take-cell_of : (class : Class) (text : List ℕ) → take (length (cell_of class text)) text ≡ cell_of class text
take-cell_of class [] = refl
take-cell_of class (b ∷ bs) = elim (cases_Bool (stops class b bs)) [
  | inl e ↦ rw e refl
  | inr e ↦ rw e (ap (λ l. b ∷ l) (take-cell_of class bs))
]

-- what is read of a cell, by the two tests
pub tests_cell : (class : Class) (after text : List ℕ) (n : ℕ) (f g : Bool) → n ≡ length (cell_of class text) → f ≡ fits class (take n text)
    → g ≡ starts_with eqb (take (length text - n) (drop n text)) after → read_cell class after text ≡ cond (f && g) (Some n) None
unfolding read_cell
tests_cell class after text n f g e ef eg =
    let cell : take n text ≡ cell_of class text = ap (λ k. take k text) e ∙ take-cell_of class text in
    let first : fits class (cell_of class text) ≡ f = ap (fits class) (sym cell) ∙ sym ef in
    let second : starts_with eqb (drop (length (cell_of class text)) text) after ≡ g =
    ap (λ k. starts_with eqb (drop k text) after) (sym e) ∙ ap (λ t. starts_with eqb t after) (sym (take_rest text n)) ∙ sym eg in
    rw (first, second, e) refl
