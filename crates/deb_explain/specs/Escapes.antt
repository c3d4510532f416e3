-- Bytes of a file as they are shown: in printable ASCII, and shortened where there are many. The
-- form is this project's own.
use Rattle.std.specs.Prelude.{◌≡◌, ℕ, ◌+◌, ◌-◌, ◌/◌, ◌%◌, ◌==◌, ◌&&◌, cond, nat_le, nat_lt, List}
use Rattle.std.specs.Prelude.{[], ◌∷◌, ◌++◌, length, take, replicate, Option, Some, None, codes}
use Rattle.std.specs.Prelude.{refl}
use Rattle.std.specs.List.{flat_map}

-- the hexadecimal digit of a number below 16: 48 is `0`, 97 is `a`
unfoldable pub hex_digit : ℕ → ℕ
hex_digit n = cond (nat_lt n 10) (48 + n) (97 + (n - 10))

-- a byte in printable ASCII (32 to 126), where a backslash (92) begins what represents another
unfoldable pub escaped_byte : ℕ → List ℕ
escaped_byte b =
    cond (b == 9) (codes "\\t")
    (cond (b == 10) (codes "\\n")
    (cond (b == 92) (codes "\\\\")
    (cond (nat_le 32 b && nat_le b 126) (b ∷ [])
    (92 ∷ 120 ∷ hex_digit (b / 16) ∷ hex_digit (b % 16) ∷ []))))

-- how many bytes of a text are shown
abbrev pub most_shown : ℕ
most_shown = 200

-- what is shown of a text that is too long to be shown whole
unfoldable pub front_of : List ℕ → Option (List ℕ)
front_of text = cond (nat_le (length text) most_shown) None (Some (take most_shown text))

-- a text, or its prefix, and the end of its line: `\...` is written for what is left out, which no
-- byte is escaped as
unfoldable pub shortened : List ℕ → Option (List ℕ) → List ℕ
shortened text None = flat_map escaped_byte text ++ codes "\n"
shortened text (Some front) = flat_map escaped_byte front ++ codes "\\...\n"

-- a line of a text after its key
unfoldable pub shown_line : List ℕ → List ℕ → List ℕ
shown_line key text = key ++ shortened text (front_of text)

-- bytes that are shown as they are, and others
escapes : (flat_map escaped_byte (codes "a ~\t\n\\") ≡ codes "a ~\\t\\n\\\\")
    × (flat_map escaped_byte (31 ∷ 127 ∷ 0 ∷ 195 ∷ 188 ∷ []) ≡ codes "\\x1f\\x7f\\x00\\xc3\\xbc")
unfolding escaped_byte hex_digit
escapes = (refl, refl)

-- a text is cut after its 200th byte; one that ends in three dots isn't shown like one that is cut
long_texts : (front_of (replicate 200 97) ≡ None)
    × (front_of (replicate 201 97) ≡ Some (replicate 200 97))
    × (shortened (codes "abc") (Some (codes "ab")) ≡ codes "ab\\...\n")
    × (shortened (codes "ab...") None ≡ codes "ab...\n")
    × (shortened (codes "ab\\...") None ≡ codes "ab\\\\...\n")
unfolding front_of shortened escaped_byte
long_texts = (refl, refl, refl, refl, refl)
