-- How rows of numbers are kept: all numbers in one list, and where each row ends.
use Rattle.std.specs.Prelude.{◌≡◌, ℕ, ◌-◌, ◌≤◌, List, [], ◌∷◌, take, drop, refl}

-- the rows with these ends, from this number on
abbrev pub rows_from : ℕ → List ℕ → List ℕ → List (List ℕ)
rows_from start numbers [] = []
rows_from start numbers (end ∷ ends) =
    take (end - start) (drop start numbers) ∷ rows_from end numbers ends

-- No row ends before it starts, and the last one ends at the end of the numbers.
abbrev pub AreEnds : ℕ → ℕ → List ℕ → Type 0
AreEnds start total [] = start ≡ total
AreEnds start total (end ∷ ends) = (start ≤ end) × AreEnds end total ends

-- Worked cases: three rows, of which the second is empty; none; and from a number on.
worked-rows : rows_from 0 (7 ∷ 8 ∷ 9 ∷ []) (2 ∷ 2 ∷ 3 ∷ [])
    ≡ (7 ∷ 8 ∷ []) ∷ [] ∷ (9 ∷ []) ∷ []
worked-rows = refl

worked-none : rows_from 0 [] [] ≡ []
worked-none = refl

worked-later : rows_from 2 (7 ∷ 8 ∷ 9 ∷ []) (3 ∷ []) ≡ (9 ∷ []) ∷ []
worked-later = refl
