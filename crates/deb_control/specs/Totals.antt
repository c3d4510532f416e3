-- How long the canonical text of a file is (this project's own).
use Rattle.std.specs.Prelude.{◌≡◌, ℕ, zero, suc, ◌+◌, ◌==◌, cond, List, [], ◌∷◌, codes, refl}
use Rattle.deb_base.specs.Bodies.{newline}

-- with a further paragraph of so many bytes after `count` ones that have `bytes` bytes: an empty
-- line is between two
abbrev pub bytes_with : (count bytes length : ℕ) → ℕ
bytes_with count bytes length = cond (count == 0) (bytes + length) (bytes + 1 + length)

-- what is between so many paragraphs and a further one
abbrev pub gap_behind : (count : ℕ) → List ℕ
gap_behind zero = []
gap_behind (suc count) = newline ∷ []

bytes_of_totals : (bytes_with 0 7 5 ≡ 12) × (bytes_with 1 7 5 ≡ 13) × (bytes_with 2 7 5 ≡ 13)
bytes_of_totals = (refl, refl, refl)

gaps_of_totals : (gap_behind 0 ≡ []) × (gap_behind 1 ≡ codes "\n") × (gap_behind 2 ≡ codes "\n")
gaps_of_totals = (refl, refl, refl)
