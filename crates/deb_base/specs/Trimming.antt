-- A text without the spaces and tabs at its ends. Debian Policy 5.1.
use Rattle.std.specs.Prelude.{◌≡◌, ℕ, cond, List, [], ◌∷◌, codes, refl}
use Rattle.deb_base.specs.Bodies.{is_blank_byte}

-- a text without the spaces and tabs at its start
abbrev pub without_leading_blanks : List ℕ → List ℕ
without_leading_blanks [] = []
without_leading_blanks (b ∷ bs) = cond (is_blank_byte b) (without_leading_blanks bs) (b ∷ bs)

-- a byte before a text whose trailing spaces and tabs are cut
abbrev pub with_kept : ℕ → List ℕ → List ℕ
with_kept b [] = cond (is_blank_byte b) [] (b ∷ [])
with_kept b (c ∷ cs) = b ∷ c ∷ cs

abbrev pub without_trailing_blanks : List ℕ → List ℕ
without_trailing_blanks [] = []
without_trailing_blanks (b ∷ bs) = with_kept b (without_trailing_blanks bs)

-- a text without the spaces and tabs at its ends
abbrev pub trimmed : List ℕ → List ℕ
trimmed text = without_trailing_blanks (without_leading_blanks text)

blanks_at_ends : trimmed (codes " \t1 2\t ") ≡ codes "1 2"
blanks_at_ends = refl

only_blanks : trimmed (codes " \t") ≡ []
only_blanks = refl

-- newlines and carriage returns stay, and so do blanks beside them
line_ends_stay : (trimmed (codes " \n a\t\n ") ≡ codes "\n a\t\n")
    × (trimmed (codes "a\r ") ≡ codes "a\r")
line_ends_stay = (refl, refl)
