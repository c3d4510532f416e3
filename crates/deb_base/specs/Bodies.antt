-- The bodies of fields: what follows a field's colon, through its continuation lines, without
-- the spaces and tabs at its ends; and the blank lines that can't be within one. Debian Policy
-- 5.1; deb822(5), "Syntax".
use Rattle.std.specs.Prelude.{◌≡◌, ℕ, ◌+◌, ◌==◌, ◌&&◌, ◌||◌, Bool, true, false, cond, not, IsTrue, List, [], ◌∷◌, length, drop, nat_le, codes, refl}
use Rattle.std.specs.List.{list_all, filter, join_with_byte, range_with_len, AllByRecursion}
use Rattle.std.specs.Str.{IsUtf8, is_utf8, chars}
use lib.Utf8.{encode}

abbrev pub Line : Type 0
Line = List ℕ

-- the byte that ends a line
abbrev pub newline : ℕ
newline = 10

-- space and tab
abbrev pub is_blank_byte : ℕ → Bool
is_blank_byte b = (b == 32) || (b == 9)

-- a byte before the first line
abbrev pub with_byte : ℕ → List Line → List Line
with_byte b [] = (b ∷ []) ∷ []
with_byte b (line ∷ lines) = (b ∷ line) ∷ lines

-- the pieces of a text between its newlines
abbrev pub pieces_of : List ℕ → List Line
pieces_of [] = [] ∷ []
pieces_of (b ∷ bs) = cond (b == newline) ([] ∷ pieces_of bs) (with_byte b (pieces_of bs))

-- a line holds no newline
abbrev pub HasNoNewline : Line → Type 0
HasNoNewline line = AllByRecursion (λ b. (b == newline) ≡ false) line

-- lines with a newline between two of them
abbrev pub joined : List Line → List ℕ
joined lines = join_with_byte newline lines

-- a line's length, in which its newline counts even where it is missing
abbrev pub line_length : Line → ℕ
line_length line = length line + 1

-- the most that the lengths of a paragraph's lines may add up to, in bytes (this project's own)
unfoldable pub paragraph_limit : ℕ
paragraph_limit = 16777216

-- the most bytes that a file may have (this project's own)
unfoldable pub file_limit : ℕ
file_limit = 4294967295

-- only spaces and tabs, or nothing
abbrev pub is_all_blank : List ℕ → Bool
is_all_blank text = list_all is_blank_byte text

-- a line that is blank where a paragraph may have so many bytes
abbrev pub is_blank_under : ℕ → Line → Bool
is_blank_under limit line = nat_le (line_length line) limit && is_all_blank line

-- a blank line separates paragraphs; one that is longer than a paragraph may be is none
abbrev pub is_blank : Line → Bool
is_blank line = is_blank_under paragraph_limit line

-- a space or a tab comes first
abbrev pub begins_with_blank : List ℕ → Bool
begins_with_blank [] = false
begins_with_blank (b ∷ bs) = is_blank_byte b

-- a space or a tab comes last
abbrev pub ends_with_blank : List ℕ → Bool
ends_with_blank [] = false
ends_with_blank (b ∷ []) = is_blank_byte b
ends_with_blank (b ∷ c ∷ bs) = ends_with_blank (c ∷ bs)

-- a line that belongs to the field above it
abbrev pub is_continuation : Line → Bool
is_continuation line = begins_with_blank line && not (is_blank line)

-- no space or tab at either end, and each line after the first is a continuation line
abbrev pub is_body_shape : List ℕ → Bool
is_body_shape body =
    not (begins_with_blank body) && not (ends_with_blank body)
    && list_all is_continuation (drop 1 (pieces_of body))

-- The text can be a field's body.
pub record IsBody (body : List ℕ) : Type 0 where
  pub shape : IsTrue (is_body_shape body)
  pub text : IsUtf8 body

-- the same as a test
abbrev pub is_body : List ℕ → Bool
is_body body = is_body_shape body && is_utf8 body

last_piece : pieces_of (codes "a\n") ≡ codes "a" ∷ [] ∷ []
last_piece = refl

no_piece : pieces_of [] ≡ [] ∷ []
no_piece = refl

joined_pieces : joined (codes "a" ∷ [] ∷ codes "b" ∷ []) ≡ codes "a\n\nb"
joined_pieces = refl

blank_bytes : list_all is_blank_byte (32 ∷ 9 ∷ []) ≡ true
blank_bytes = refl

-- of all bytes the tab and the space alone
all_blank_bytes : filter is_blank_byte (range_with_len 0 256) ≡ 9 ∷ 32 ∷ []
all_blank_bytes = refl

-- neither a newline, nor a carriage return, nor a vertical tab, nor the byte of no-break spaces is
-- blank
other_bytes : list_all (λ b. not (is_blank_byte b)) (10 ∷ 13 ∷ 11 ∷ 12 ∷ 0 ∷ 160 ∷ 8 ∷ 33 ∷ [])
    ≡ true
other_bytes = refl

blank_lines : (is_blank [] ≡ true) × (is_blank (codes " \t ") ≡ true)
    × (is_blank (codes " .") ≡ false)
unfolding paragraph_limit
blank_lines = (refl, refl, refl)

-- with its newline it may be as long as a paragraph, and no longer
longest_blank_line : (is_blank_under 4 (codes " \t ") ≡ true)
    × (is_blank_under 3 (codes " \t ") ≡ false) × (is_blank_under 1 [] ≡ true)
    × (is_blank_under 0 [] ≡ false)
longest_blank_line = (refl, refl, refl, refl)

continuation_lines : (is_continuation (codes " x") ≡ true) × (is_continuation (codes "\tx") ≡ true)
    × (is_continuation (codes "x") ≡ false) × (is_continuation [] ≡ false)
    × (is_continuation (codes " \t") ≡ false)
unfolding paragraph_limit
continuation_lines = (refl, refl, refl, refl, refl)

empty_body : is_body [] ≡ true
unfolding is_utf8 chars encode
empty_body = refl

-- spaces and tabs stay at the ends of inner lines
long_body : is_body (codes "short  \n one\t\n .\n\ttwo") ≡ true
unfolding is_utf8 chars encode paragraph_limit
long_body = refl

body_behind_line_end : is_body (codes "\n aa") ≡ true
unfolding is_utf8 chars encode paragraph_limit
body_behind_line_end = refl

blank_ends : (is_body_shape (codes " a") ≡ false) × (is_body_shape (codes "\ta") ≡ false)
    × (is_body_shape (codes "a ") ≡ false) × (is_body_shape (codes "a\t") ≡ false)
    × (is_body_shape (codes " ") ≡ false)
blank_ends = (refl, refl, refl, refl, refl)

-- a last newline ends no line of a body
newline_at_end : is_body_shape (codes "a\n") ≡ false
unfolding paragraph_limit
newline_at_end = refl

-- a line of one space is blank, so it can't be within a body
blank_within : (is_body_shape (codes "a\n \n b") ≡ false)
    × (is_body_shape (codes "a\n\n b") ≡ false)
unfolding paragraph_limit
blank_within = (refl, refl)

-- a second line that begins a field
field_within : is_body_shape (codes "a\nb") ≡ false
unfolding paragraph_limit
field_within = refl

-- `caf` and half of a character, and with its other half
half_character : (is_body (99 ∷ 97 ∷ 102 ∷ 195 ∷ []) ≡ false)
    × (is_body (99 ∷ 97 ∷ 102 ∷ 195 ∷ 169 ∷ []) ≡ true)
unfolding is_utf8 chars encode
half_character = (refl, refl)

-- sixteen times 1,048,576 bytes
limits : (paragraph_limit ≡ 16777216) × (file_limit ≡ 4294967295)
unfolding paragraph_limit file_limit
limits = (refl, refl)

limit_of_blank_lines : is_blank ≡ is_blank_under 16777216
unfolding paragraph_limit
limit_of_blank_lines = refl

-- each later line is judged, and not the second one alone
later_lines : (is_body_shape (codes "a\n b\nc") ≡ false)
    × (is_body_shape (codes "a\n b\n\n c") ≡ false) × (is_body_shape (codes "\n b\n\tc") ≡ true)
    × (is_body_shape (codes "a\r\n b") ≡ true)
unfolding paragraph_limit
later_lines = (refl, refl, refl, refl)
