-- A line that is longer than a paragraph may be, of which only the number of bytes is kept: Debian
-- Policy 5.1. The limit, and that the bytes aren't kept, are this project's own.
use Rattle.std.specs.Prelude.{◌≡◌, ℕ, ◌≤◌, List, [], ◌++◌, length, take, drop, replicate, codes, refl}
use Rattle.deb_base.specs.Bodies.{HasNoNewline, paragraph_limit}

-- the byte in the place of each that isn't kept
abbrev pub line_byte : ℕ
line_byte = 120

-- a text with so many bytes of a line that aren't kept after so many of its bytes
abbrev pub with_long : ℕ → ℕ → List ℕ → List ℕ
with_long at count text = take at text ++ (replicate count line_byte ++ drop at text)

-- The text is the same but for bytes of one line, of which there are as many, and so many that the
-- line is longer than a paragraph may be.
pub record ChangesLongLine (old new : List ℕ) : Type 0 where
  pub front : List ℕ
  pub before : List ℕ
  pub after : List ℕ
  pub rest : List ℕ
  pub was : old ≡ front ++ (before ++ rest)
  pub is : new ≡ front ++ (after ++ rest)
  pub line_before : HasNoNewline before
  pub line_after : HasNoNewline after
  pub bytes : length before ≡ length after
  pub long : paragraph_limit ≤ length before

texts_with_long : (with_long 2 3 (codes "a\nb") ≡ codes "a\nxxxb")
    × (with_long 2 0 (codes "a\nb") ≡ codes "a\nb") × (with_long 0 2 [] ≡ codes "xx")
    × (with_long 2 1 (codes "a\n\n") ≡ codes "a\nx\n")
texts_with_long = (refl, refl, refl, refl)
