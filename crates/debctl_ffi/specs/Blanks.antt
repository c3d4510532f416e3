-- Blank lines that are only counted: Debian Policy 5.1. That they aren't kept is this project's
-- own.
use Rattle.std.specs.Prelude.{◌≡◌, ℕ, zero, suc, ◌+◌, ◌-◌, ◌*◌, ◌≤◌, ◌&&◌, Bool, true, cond, min, nat_le, List, [], ◌∷◌, ◌++◌, length, replicate}
use Rattle.deb_base.specs.Bodies.{newline}
use Rattle.deb_syntax.specs.Extents.{AreBlank}
use Rattle.deb_syntax.specs.Lines.{ends_blank, ends_line, lines_of}

-- how many spaces the first of so many blank lines has, which have so many together: a few, unless
-- more are needed
abbrev pub share_of : ℕ → ℕ → ℕ
share_of lines spaces = min spaces (cond (nat_le spaces (lines * 1024)) 1024 16777215)

-- so many blank lines, with so many spaces together
abbrev pub blank_text : ℕ → ℕ → List ℕ
blank_text zero spaces = []
blank_text (suc n) spaces =
    replicate (share_of (suc n) spaces) 32
    ++ newline ∷ blank_text n (spaces - share_of (suc n) spaces)

-- the same, where the first line has so many spaces
abbrev pub blank_text_from : ℕ → ℕ → ℕ → List ℕ
blank_text_from first zero spaces = []
blank_text_from first (suc n) spaces = replicate first 32 ++ newline ∷ blank_text n spaces

-- A text is so many blank lines, with so many spaces and tabs together.
pub record AreBlankLines (text : List ℕ) (lines spaces : ℕ) : Type 0 where
  pub whole : ends_line text ≡ true
  pub blank : AreBlank (lines_of text)
  pub counted : length (lines_of text) ≡ lines
  pub bytes : length text ≡ lines + spaces
  pub few : spaces ≤ lines * 16777215

-- whether a blank line and its newline end the text, whatever is before it
abbrev pub is_closing : List ℕ → Bool
is_closing text =
    (ends_line text && ends_blank (lines_of text)) && nat_le 2 (length (lines_of text))

-- The text is the same but for blank lines, of which there are as many, with as many bytes.
pub record DropsBlanks (old new : List ℕ) : Type 0 where
  pub front : List ℕ
  pub before : List ℕ
  pub after : List ℕ
  pub rest : List ℕ
  pub lines : ℕ
  pub spaces : ℕ
  pub was : old ≡ front ++ (before ++ rest)
  pub is : new ≡ front ++ (after ++ rest)
  pub closing : is_closing front ≡ true
  pub blank_before : AreBlankLines before lines spaces
  pub blank_after : AreBlankLines after lines spaces
