-- Sets of numbers as lists of marks.
use Rattle.std.specs.Prelude.{◌≡◌, ℕ, ◌<◌, Bool, true, false, List, [], ◌∷◌, length, map, refl, slice_index_or}
use Rattle.deb_solve.specs.Health.{is_among}

-- whether a number has a mark
abbrev pub marked : List Bool → ℕ → Bool
marked marks number = slice_index_or marks number false

worked-marks : map (marked (false ∷ true ∷ [])) (0 ∷ 1 ∷ 2 ∷ []) ≡ false ∷ true ∷ false ∷ []
worked-marks = refl

-- The marks of the numbers below a count are those of a list.
pub record AreMarks (marks : List Bool) (numbers : List ℕ) (count : ℕ) : Type 0 where
  pub same : (p : ℕ) → p < count → marked marks p ≡ is_among numbers p
  pub size : length marks ≡ count
