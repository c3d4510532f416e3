-- The lines at which the paragraphs of a file start. Debian Policy 5.1.
use Rattle.std.specs.Prelude.{◌≡◌, ℕ, ◌-◌, nat_eq, if◌then◌else◌, List, [], ◌∷◌, map, Option, None, Some, codes, refl}
use Rattle.std.specs.List.{slice_get}
use Rattle.deb_base.specs.Bodies.{paragraph_limit}
use Rattle.deb_syntax.specs.Lines.{Paragraph, paragraphs_of}

-- the number of a paragraph's first line in its file, counted from 1
abbrev pub first_line : Paragraph → ℕ
first_line p = p.first

-- those of all paragraphs of a file, in its order
abbrev pub first_lines : List ℕ → List ℕ
first_lines text = map first_line (paragraphs_of text)

-- the line of the paragraph with a number, which is counted from 1
abbrev pub line_at : ℕ → List ℕ → Option ℕ
line_at number lines = if nat_eq number 0 then None else slice_get lines (number - 1)

-- empty lines and lines of spaces are counted
worked-lines : first_lines (codes "\n\nb:1\nc:2\n \n\nA: 2") ≡ 3 ∷ 7 ∷ []
unfolding paragraph_limit
worked-lines = refl

worked-none : first_lines (codes "\n") ≡ []
unfolding paragraph_limit
worked-none = refl

worked-at : map (λ n. line_at n (3 ∷ 7 ∷ [])) (0 ∷ 1 ∷ 2 ∷ 3 ∷ [])
    ≡ None ∷ Some 3 ∷ Some 7 ∷ None ∷ []
worked-at = refl
