-- The lines of a text are its pieces between newlines, without the last one where that is empty.
use Rattle.std.proofs.Common.{◌≡◌, ◌≤◌, ℕ, zero, suc, ◌-◌, ◌<◌, Bool, true, false, cond, List, [], ◌∷◌, length, map, take, get_or, Bor, refl, sym, ap, ap₂, ◌∙◌, arith}
use Rattle.std.specs.Prelude.{◌==◌}
use Rattle.std.proofs.lemmas.Bool.{eqb-true}
use Rattle.std.proofs.lemmas.List.{get_or-map, length-map, take-map}
use Rattle.deb_base.specs.Bodies.{Line, newline, pieces_of, with_byte}
use Rattle.deb_syntax.specs.Lines.{lines_of}
use Rattle.deb_syntax.proofs.LinesOfPieces.{IsNonempty, IsNonempty-pieces_of}

-- a line that has bytes, at the end of a text
abbrev nonempty : Line → List Line
nonempty [] = []
nonempty (b ∷ bs) = (b ∷ bs) ∷ []

-- pieces without the last one, where that is empty
abbrev pub without_empty_last : List Line → List Line
without_empty_last [] = []
without_empty_last (piece ∷ []) = nonempty piece
without_empty_last (piece ∷ next ∷ pieces) = piece ∷ without_empty_last (next ∷ pieces)

behind_newline : (pieces : List Line) → IsNonempty pieces → without_empty_last ([] ∷ pieces) ≡ [] ∷ without_empty_last pieces
behind_newline [] some = absurd some
behind_newline (piece ∷ pieces) some = refl

behind_byte : (b : ℕ) (pieces : List Line) → IsNonempty pieces → without_empty_last (with_byte b pieces) ≡ with_byte b (without_empty_last pieces)
behind_byte b [] some = absurd some
behind_byte b ([] ∷ []) some = refl
behind_byte b ((c ∷ cs) ∷ []) some = refl
behind_byte b (piece ∷ next ∷ pieces) some = refl

by_test : (t : Bool) (us vs : List Line) → without_empty_last (cond t us vs) ≡ cond t (without_empty_last us) (without_empty_last vs)
by_test true us vs = refl
by_test false us vs = refl

pub lines_from_pieces : (text : List ℕ) → without_empty_last (pieces_of text) ≡ lines_of text
lines_from_pieces [] = refl
lines_from_pieces (b ∷ bs) =
    by_test (b == newline) ([] ∷ pieces_of bs) (with_byte b (pieces_of bs))
    ∙ ap₂ (cond (b == newline)) (behind_newline (pieces_of bs) (IsNonempty-pieces_of bs) ∙ ap (λ lines. [] ∷ lines) (lines_from_pieces bs))
    (behind_byte b (pieces_of bs) (IsNonempty-pieces_of bs) ∙ ap (with_byte b) (lines_from_pieces bs))

-- the last piece is cut off where it is empty, and kept where it isn't
if_empty : (piece : Line) → (length piece == 0) ≡ true → nonempty piece ≡ []
if_empty [] empty = refl
if_empty (b ∷ bs) empty = let none : length (b ∷ bs) ≡ 0 = eqb-true (length (b ∷ bs)) 0 empty in absurd (omega (arith, none))

if_full : (piece : Line) → (length piece == 0) ≡ false → nonempty piece ≡ piece ∷ []
if_full [] full = let bad : ⊥ = cc in absurd bad
if_full (b ∷ bs) full = refl

take_but_last : (n : ℕ) (pieces : List Line) → length pieces ≡ suc n → (length (get_or pieces n []) == 0) ≡ true → take n pieces ≡ without_empty_last pieces
take_but_last n [] is empty = absurd (omega (arith, is))
take_but_last zero (piece ∷ []) is empty = sym (if_empty piece empty)
take_but_last (suc n) (piece ∷ []) is empty = absurd (omega (arith, is))
take_but_last zero (piece ∷ next ∷ pieces) is empty = absurd (omega (arith, is))
take_but_last (suc n) (piece ∷ next ∷ pieces) is empty = ap (λ lines. piece ∷ lines) (take_but_last n (next ∷ pieces) (omega (arith, is)) empty)

keep_last : (n : ℕ) (pieces : List Line) → length pieces ≡ suc n → (length (get_or pieces n []) == 0) ≡ false → pieces ≡ without_empty_last pieces
keep_last n [] is full = refl
keep_last zero (piece ∷ []) is full = sym (if_full piece full)
keep_last (suc n) (piece ∷ []) is full = absurd (omega (arith, is))
keep_last zero (piece ∷ next ∷ pieces) is full = absurd (omega (arith, is))
keep_last (suc n) (piece ∷ next ∷ pieces) is full = ap (λ lines. piece ∷ lines) (keep_last n (next ∷ pieces) (omega (arith, is)) full)

-- the same of pieces that are borrowed
module _ (items : List (Bor (List ℕ))) (n : ℕ) (d : Bor (List ℕ)) (is : n ≡ length items) where
  abbrev texts : List Line
  texts = map (λ (l : Bor (List ℕ)). l.now) items

  count : length texts ≡ n
  count = length-map items (λ l. l.now) ∙ sym is

  last : 0 < n → get_or texts (n - 1) [] ≡ (get_or items (n - 1) d).now
  last some = get_or-map (λ (l : Bor (List ℕ)). l.now) items (n - 1) d [] (omega (arith, is, some))

  pub cut_last : 0 < n → (length (get_or items (n - 1) d).now == 0) ≡ true → map (λ (l : Bor (List ℕ)). l.now) (take (n - 1) items) ≡ without_empty_last texts
  cut_last some empty =
      sym (take-map (λ l. l.now) (n - 1) items) ∙ take_but_last (n - 1) texts (omega (arith, some, count)) (ap (λ l. length l == 0) (last some) ∙ empty)

  pub kept_last : 0 < n → (length (get_or items (n - 1) d).now == 0) ≡ false → texts ≡ without_empty_last texts
  kept_last some full = keep_last (n - 1) texts (omega (arith, some, count)) (ap (λ l. length l == 0) (last some) ∙ full)

pub kept_none : (items : List (Bor (List ℕ))) (n : ℕ) → n ≡ length items → n ≤ 0 → map (λ (l : Bor (List ℕ)). l.now) items ≡ without_empty_last (map (λ (l : Bor (List ℕ)). l.now) items)
kept_none [] n is none = refl
kept_none (x ∷ xs) n is none = absurd (omega (arith, is, none))
