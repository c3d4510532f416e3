-- Where the lines of a paragraph end in its bytes, without their newlines. Debian Policy 5.1.
use Rattle.std.specs.Prelude.{◌≡◌, ℕ, ◌+◌, List, [], ◌∷◌, length, codes, refl}
use Rattle.deb_base.specs.Bodies.{Line, line_length, pieces_of}
use Rattle.deb_syntax.specs.Lines.{lines_of}

-- where lines end, if the first begins at `start`
abbrev pub ends_from : ℕ → List Line → List ℕ
ends_from start [] = []
ends_from start (line ∷ lines) = (start + length line) ∷ ends_from (start + line_length line) lines

-- where the lines of a text end, and its pieces
abbrev pub line_ends : List ℕ → List ℕ
line_ends text = ends_from 0 (lines_of text)

abbrev pub piece_ends : List ℕ → List ℕ
piece_ends text = ends_from 0 (pieces_of text)

ends_of_three : (line_ends (codes "ab\n\nc") ≡ 2 ∷ 3 ∷ 5 ∷ [])
    × (piece_ends (codes "ab\n\nc") ≡ 2 ∷ 3 ∷ 5 ∷ [])
    × (ends_from 7 (codes "ab" ∷ [] ∷ codes "c" ∷ []) ≡ 9 ∷ 10 ∷ 12 ∷ [])
ends_of_three = (refl, refl, refl)

-- a last newline ends a line, and a piece begins after it
ends_at_newline : (line_ends (codes "ab\n") ≡ 2 ∷ []) × (piece_ends (codes "ab\n") ≡ 2 ∷ 3 ∷ [])
    × (line_ends [] ≡ []) × (piece_ends [] ≡ 0 ∷ [])
ends_at_newline = (refl, refl, refl, refl)
