-- The lines of values that differ (this project's own; Debian Policy 5.1 has the form of a field).
use Rattle.std.specs.Prelude.{◌≡◌, List, [], ◌∷◌, ◌++◌, ℕ, Option, None, Some, codes, refl}
use Rattle.std.specs.FinMap.{find}
use Rattle.std.specs.List.{flat_map}
use Rattle.deb_base.specs.Bodies.{newline}
use Rattle.deb_syntax.specs.Lines.{lines_of}
use Rattle.deb_syntax.specs.Meaning.{Entries, byte_order}
use Rattle.deb_control.specs.Canonical.{field_text}
use Rattle.deb_diff.specs.Fields.{differing}

-- the lines of a text, each after a mark
abbrev pub marked : List ℕ → List ℕ → List ℕ
marked mark text = flat_map (λ line. mark ++ line ++ newline ∷ []) (lines_of text)

-- the mark of what only the old file has, and that of what only the new one has
abbrev pub old_mark : List ℕ
old_mark = codes " -"

abbrev pub new_mark : List ℕ
new_mark = codes " +"

-- the lines of the canonical text of a field, and none if there is no such field
abbrev pub field_lines : List ℕ → List ℕ → Option (List ℕ) → List ℕ
field_lines mark name None = []
field_lines mark name (Some body) = marked mark (field_text (name, body))

-- for each of these names, the lines of the old paragraph's field, then those of the new one's
abbrev pub lines_under : Entries → Entries → List (List ℕ) → List ℕ
lines_under old new names =
    flat_map
    (λ name. field_lines old_mark name (find byte_order name old)
    ++ field_lines new_mark name (find byte_order name new)) names

-- those of the fields that differ or are in one paragraph only
abbrev pub differing_lines : Entries → Entries → List ℕ
differing_lines old new = lines_under old new (differing old new)

-- a line, several of which one is empty, none, and a last one without its newline
worked-marked : (marked old_mark (codes "A: b\n") ≡ codes " -A: b\n")
    × (marked new_mark (codes "A:\n b\n\n\tc\n") ≡ codes " +A:\n + b\n +\n +\tc\n")
    × (marked old_mark [] ≡ []) × (marked old_mark (codes "a") ≡ codes " -a\n")
worked-marked = (refl, refl, refl, refl)

-- no field, an empty value, one of several lines, and one whose first line is empty
worked-field_lines : (field_lines old_mark (codes "A") None ≡ [])
    × (field_lines old_mark (codes "A") (Some []) ≡ codes " -A:\n")
    × (field_lines new_mark (codes "A") (Some (codes "b\n c\n .\n\td"))
    ≡ codes " +A: b\n + c\n + .\n +\td\n")
    × (field_lines new_mark (codes "A") (Some (codes "\n b")) ≡ codes " +A:\n + b\n")
worked-field_lines = (refl, refl, refl, refl)

-- `Aa` is in the new one only, `Cc` in the old one only, `Bb` is equal, and `Dd` and `Ee` differ
abbrev one : Entries
one =
    (codes "Bb", codes "1") ∷ (codes "Cc", codes "\n 2") ∷ (codes "Dd", codes "3\n x")
    ∷ (codes "Ee", []) ∷ []

abbrev other : Entries
other =
    (codes "Aa", codes "0") ∷ (codes "Bb", codes "1") ∷ (codes "Dd", codes "3\n y")
    ∷ (codes "Ee", codes "5") ∷ []

worked-differing_lines : (differing_lines one other
    ≡ codes " +Aa: 0\n -Cc:\n - 2\n -Dd: 3\n - x\n +Dd: 3\n + y\n -Ee:\n +Ee: 5\n")
    × (differing_lines other one
    ≡ codes " -Aa: 0\n +Cc:\n + 2\n -Dd: 3\n - y\n +Dd: 3\n + x\n -Ee: 5\n +Ee:\n")
    × (differing_lines one one ≡ []) × (differing_lines [] [] ≡ [])
worked-differing_lines = (refl, refl, refl, refl)

-- only the fields that are named
worked-lines_under : (lines_under one other (codes "Dd" ∷ codes "Zz" ∷ [])
    ≡ codes " -Dd: 3\n - x\n +Dd: 3\n + y\n") × (lines_under one other [] ≡ [])
worked-lines_under = (refl, refl)
