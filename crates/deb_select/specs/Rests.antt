-- What is left of a text from which lines were taken: what follows the newline of the last one, if
-- it has one.
use Rattle.std.specs.Prelude.{◌≡◌, ℕ, ◌+◌, List, [], ◌∷◌, Option, None, Some, codes, length, refl}
use Rattle.deb_base.specs.Bodies.{Line, pieces_of}

-- its lines
abbrev pub lines_left : Option (List ℕ) → List Line
lines_left None = []
lines_left (Some text) = pieces_of text

-- how many bytes are left, with the newline before them
abbrev pub bytes_left : Option (List ℕ) → ℕ
bytes_left None = 0
bytes_left (Some text) = 1 + length text

-- an empty text is one line, and no text is none
worked-left : (lines_left (Some (codes "a\n")) ≡ codes "a" ∷ [] ∷ [])
    × (lines_left (Some []) ≡ [] ∷ []) × (lines_left None ≡ [])
    × (bytes_left (Some (codes "a\n")) ≡ 3) × (bytes_left None ≡ 0)
worked-left = (refl, refl, refl, refl, refl)
