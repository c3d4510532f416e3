-- The lines of a text, and its paragraphs. Debian Policy 5.1; deb822(5), "Description".
use Rattle.std.specs.Prelude.{◌≡◌, ℕ, ◌+◌, ◌==◌, Bool, true, false, cond, List, [], ◌∷◌, ◌++◌, sum_by, codes, refl}
use Rattle.deb_base.specs.Bodies.{Line, newline, with_byte, line_length, paragraph_limit, is_blank_under}

-- the lines of a text: its pieces, where an empty last piece is no line
abbrev pub lines_of : List ℕ → List Line
lines_of [] = []
lines_of (b ∷ bs) = cond (b == newline) ([] ∷ lines_of bs) (with_byte b (lines_of bs))

-- each line with its newline
abbrev pub with_newlines : List Line → List ℕ
with_newlines [] = []
with_newlines (line ∷ lines) = line ++ newline ∷ with_newlines lines

-- lines that follow one another, and the number of the first
pub record Paragraph : Type 0 where
  pub first : ℕ
  pub lines : List Line

-- Where a word ends in `_under`, its first argument is how many bytes a paragraph may have; the
-- word without that is the same at the limit of this project.

-- whether a blank line comes first, or no line at all
abbrev pub begins_blank_under : ℕ → List Line → Bool
begins_blank_under limit [] = true
begins_blank_under limit (line ∷ lines) = is_blank_under limit line

abbrev pub begins_blank : List Line → Bool
begins_blank lines = begins_blank_under paragraph_limit lines

-- whether nothing follows the last newline of a text: it is empty, or ends with one
abbrev pub ends_line : List ℕ → Bool
ends_line [] = true
ends_line (b ∷ []) = b == newline
ends_line (b ∷ c ∷ bs) = ends_line (c ∷ bs)

-- whether a blank line comes last, or no line at all
abbrev pub ends_blank_under : ℕ → List Line → Bool
ends_blank_under limit [] = true
ends_blank_under limit (line ∷ []) = is_blank_under limit line
ends_blank_under limit (line ∷ next ∷ lines) = ends_blank_under limit (next ∷ lines)

abbrev pub ends_blank : List Line → Bool
ends_blank lines = ends_blank_under paragraph_limit lines

-- a text that is nothing, or ends with a blank line and its newline
abbrev pub IsClosed : List ℕ → Type 0
IsClosed passed = (ends_line passed ≡ true) × (ends_blank (lines_of passed) ≡ true)

-- line n before the paragraphs of the lines after it, where the first is blank or not
abbrev pub with_line : ℕ → Line → Bool → List Paragraph → List Paragraph
with_line n line false (p ∷ ps) = record { first = n; lines = line ∷ p.lines } ∷ ps
with_line n line false [] = record { first = n; lines = line ∷ [] } ∷ []
with_line n line true ps = record { first = n; lines = line ∷ [] } ∷ ps

-- the paragraphs of lines, the first with number n: the maximal runs of lines that aren't
-- blank
abbrev pub paragraphs_under : ℕ → ℕ → List Line → List Paragraph
paragraphs_under limit n [] = []
paragraphs_under limit n (line ∷ lines) =
    cond (is_blank_under limit line) (paragraphs_under limit (n + 1) lines)
    (with_line n line (begins_blank_under limit lines) (paragraphs_under limit (n + 1) lines))

abbrev pub paragraphs_from : ℕ → List Line → List Paragraph
paragraphs_from n lines = paragraphs_under paragraph_limit n lines

-- the paragraphs of a text; its lines are numbered from 1, blank ones included
abbrev pub paragraphs_of : List ℕ → List Paragraph
paragraphs_of text = paragraphs_from 1 (lines_of text)

-- what the lengths of lines add up to
abbrev pub total_length : List Line → ℕ
total_length lines = sum_by line_length lines

lines_of_two : lines_of (codes "a\n\nb") ≡ codes "a" ∷ [] ∷ codes "b" ∷ []
lines_of_two = refl

last_newline : lines_of (codes "a\n") ≡ codes "a" ∷ []
last_newline = refl

-- a line of one space ends the first paragraph
apart : paragraphs_of (codes "b:1\n \n\nA: 2")
    ≡ record { first = 1; lines = codes "b:1" ∷ [] }
    ∷ record { first = 4; lines = codes "A: 2" ∷ [] } ∷ []
unfolding paragraph_limit
apart = refl

-- a line of three spaces ends a paragraph where that may have four bytes, and is one of its lines
-- where it may have three
longest_blank_line : (paragraphs_under 4 1 (lines_of (codes "a\n   \nb"))
    ≡ record { first = 1; lines = codes "a" ∷ [] }
    ∷ record { first = 3; lines = codes "b" ∷ [] } ∷ [])
    × (paragraphs_under 3 1 (lines_of (codes "a\n   \nb"))
    ≡ record { first = 1; lines = codes "a" ∷ codes "   " ∷ codes "b" ∷ [] } ∷ [])
    × (paragraphs_under 4 1 (lines_of (codes "   \n")) ≡ [])
    × (paragraphs_under 3 1 (lines_of (codes "   \n"))
    ≡ record { first = 1; lines = codes "   " ∷ [] } ∷ [])
longest_blank_line = (refl, refl, refl, refl)

-- nothing is closed, and what ends with a blank line and its newline
closed_texts : IsClosed [] × IsClosed (codes "a\n\n") × IsClosed (codes "a\n \t\n")
    × IsClosed (codes "\n")
unfolding paragraph_limit
closed_texts = ((refl, refl), (refl, refl), (refl, refl), (refl, refl))

-- a blank line without its newline closes nothing, nor does a line that isn't blank or is too long
-- for a blank one
open_texts : (ends_line (codes "a\n ") ≡ false) × (ends_line (codes "a") ≡ false)
    × (ends_blank (lines_of (codes "a\n")) ≡ false)
    × (ends_blank_under 4 (lines_of (codes "a\n   \n")) ≡ true)
    × (ends_blank_under 3 (lines_of (codes "a\n   \n")) ≡ false)
unfolding paragraph_limit
open_texts = (refl, refl, refl, refl, refl)

blank_line_first : (begins_blank [] ≡ true) × (begins_blank ([] ∷ codes "a" ∷ []) ≡ true)
    × (begins_blank (codes " \t" ∷ codes "a" ∷ []) ≡ true)
    × (begins_blank (codes " a" ∷ [] ∷ []) ≡ false)
unfolding paragraph_limit
blank_line_first = (refl, refl, refl, refl)

-- each line has a newline more
added_lengths : (total_length [] ≡ 0) × (total_length (codes "ab" ∷ [] ∷ codes "c" ∷ []) ≡ 6)
added_lengths = (refl, refl)

limits_of_lines : (begins_blank ≡ begins_blank_under 16777216)
    × (ends_blank ≡ ends_blank_under 16777216) × (paragraphs_from ≡ paragraphs_under 16777216)
unfolding paragraph_limit
limits_of_lines = (refl, refl, refl)
