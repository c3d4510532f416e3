-- The canonical text of a file whose values are all text (this project's own form of Debian Policy
-- 5.1).
use Rattle.std.specs.Prelude.{◌≡◌, ℕ, ◌==◌, cond, List, [], ◌∷◌, ◌++◌, map, codes, refl}
use Rattle.std.specs.List.{flat_map}
use Rattle.std.specs.Result.{result_unwrap_or}
use Rattle.std.specs.Str.{is_utf8, chars}
use lib.Utf8.{encode}
use Rattle.deb_base.specs.Bodies.{newline, paragraph_limit}
use Rattle.deb_syntax.specs.Lines.{Paragraph, paragraphs_of}
use Rattle.deb_base.specs.FieldNames.{colon}
use Rattle.deb_syntax.specs.Judging.{judged}
use Rattle.deb_syntax.specs.Meaning.{Entries, entries_of}

-- what follows the colon: nothing for an empty body, the body where it begins with a newline,
-- else a space and the body
abbrev pub behind_colon : List ℕ → List ℕ
behind_colon [] = []
behind_colon (b ∷ bs) = cond (b == newline) (b ∷ bs) (32 ∷ b ∷ bs)

-- a field's name and body
abbrev pub field_text : List ℕ × List ℕ → List ℕ
field_text entry = entry.0 ++ colon ∷ (behind_colon entry.1 ++ newline ∷ [])

-- a paragraph: its fields in ascending order of their canonical names
abbrev pub paragraph_text : Entries → List ℕ
paragraph_text entries = flat_map field_text entries

-- a file: its paragraphs in order, with one empty line between two of them
abbrev pub file_text : List Entries → List ℕ
file_text [] = []
file_text (entries ∷ []) = paragraph_text entries
file_text (entries ∷ next ∷ meaning) =
    paragraph_text entries ++ newline ∷ file_text (next ∷ meaning)

-- for the worked cases: the entries of a paragraph, none where it is refused, and the canonical
-- text of a text
abbrev read_entries : Paragraph → Entries
read_entries paragraph = entries_of (result_unwrap_or (judged paragraph.first paragraph.lines) [])

abbrev rewritten : List ℕ → List ℕ
rewritten text = file_text (map read_entries (paragraphs_of text))

three_fields : rewritten (codes "vERSION: 01.0-0\npackage:hello\nArchitecture: amd64\n")
    ≡ codes "Architecture: amd64\nPackage: hello\nVersion: 01.0-0\n"
unfolding paragraph_limit is_utf8 chars encode
three_fields = refl

empty_file : rewritten [] ≡ []
empty_file = refl

-- a line of one space and an empty one become one empty line, and a last newline comes where it
-- lacks
two_paragraphs : rewritten (codes "b:1\n \n\nA: 2") ≡ codes "B: 1\n\nA: 2\n"
unfolding paragraph_limit is_utf8 chars encode
two_paragraphs = refl

-- spaces and tabs go at the ends of a body alone
description : rewritten
    (codes "Package: aa\nVersion: 1\nArchitecture: all\nDescription:  short  \n one\t\n .\n\ttwo  ")
    ≡ codes "Architecture: all\nDescription: short  \n one\t\n .\n\ttwo\nPackage: aa\nVersion: 1\n"
unfolding paragraph_limit is_utf8 chars encode
description = refl

names_with_digits : rewritten (codes "x--1A: y\nMD5sum: x\n") ≡ codes "Md5sum: x\nX--1a: y\n"
unfolding paragraph_limit is_utf8 chars encode
names_with_digits = refl

-- the order is that of the bytes of canonical names, in which `_` comes before `a`
names_in_order : rewritten (codes "aA: 1\na_b: 2\na: 3\n") ≡ codes "A: 3\nA_b: 2\nAa: 1\n"
unfolding paragraph_limit is_utf8 chars encode
names_in_order = refl

-- no space before a body that begins with a newline
body_on_later_lines : rewritten (codes "Files: \n abc\n") ≡ codes "Files:\n abc\n"
unfolding paragraph_limit is_utf8 chars encode
body_on_later_lines = refl

empty_body : rewritten (codes "X: \t\n") ≡ codes "X:\n"
unfolding paragraph_limit is_utf8 chars encode
empty_body = refl

-- a carriage return stays, and so do the two bytes of `é`
other_bytes : rewritten (codes "name:\tAndr" ++ 195 ∷ 169 ∷ codes "\r\n")
    ≡ codes "Name: Andr" ++ 195 ∷ 169 ∷ codes "\r\n"
unfolding paragraph_limit is_utf8 chars encode
other_bytes = refl
