-- How the rows of a universe are built, package by package. This project's own.
use Rattle.std.specs.Prelude.{◌≡◌, ℕ, List, [], ◌∷◌, ◌++◌, Some, slice_get, refl}

-- Rows are appended, and none is changed.
pub record Grows (old new : List (List ℕ)) : Type 0 where
  pub more : List (List ℕ)
  pub is : new ≡ old ++ more

-- These are the numbers of these rows, one after the other.
abbrev pub AreNumbersOf : List (List ℕ) → List ℕ → List (List ℕ) → Type 0
AreNumbersOf all [] [] = Unit {0}
AreNumbersOf all [] (row ∷ rows) = ⊥
AreNumbersOf all (number ∷ numbers) [] = ⊥
AreNumbersOf all (number ∷ numbers) (row ∷ rows) =
    (slice_get all number ≡ Some row) × AreNumbersOf all numbers rows

-- The number is that of the row, which may have been appended.
pub record HasRow (old new : List (List ℕ)) (row : List ℕ) (number : ℕ) : Type 0 where
  pub grows : Grows old new
  pub is : slice_get new number ≡ Some row

-- The numbers of these rows were appended to a list, and new rows to all.
pub record AppendsRows (old new : List (List ℕ)) (before after : List ℕ)
    (rows : List (List ℕ)) : Type 0 where
  pub grows : Grows old new
  pub numbers : List ℕ
  pub appended : after ≡ before ++ numbers
  pub are : AreNumbersOf new numbers rows

-- The second and the first of two rows; too few and too many numbers.
worked-numbers : AreNumbersOf ((7 ∷ []) ∷ (8 ∷ 9 ∷ []) ∷ []) (1 ∷ 0 ∷ [])
    ((8 ∷ 9 ∷ []) ∷ (7 ∷ []) ∷ [])
    × (AreNumbersOf ((7 ∷ []) ∷ []) [] ((7 ∷ []) ∷ []) → ⊥)
    × (AreNumbersOf ((7 ∷ []) ∷ []) (0 ∷ []) [] → ⊥)
worked-numbers = ((refl, (refl, tt)), λ none. none, λ none. none)
