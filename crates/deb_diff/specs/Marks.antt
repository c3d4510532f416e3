-- The lines of fields, given by their texts after their names.
use Rattle.std.specs.Prelude.{◌≡◌, List, [], ◌∷◌, ◌++◌, ℕ, Option, None, Some, codes, refl}
use Rattle.std.specs.FinMap.{find}
use Rattle.std.specs.List.{flat_map}
use Rattle.deb_syntax.specs.Meaning.{Entries, byte_order}
use Rattle.deb_diff.specs.Values.{marked, new_mark, old_mark}

-- the lines of a field with this text after its name, and none if there is no such field
abbrev pub lines_of_rest : List ℕ → List ℕ → Option (List ℕ) → List ℕ
lines_of_rest mark name None = []
lines_of_rest mark name (Some rest) = marked mark (name ++ rest)

-- for each of these names, the lines of the old field, then those of the new one
abbrev pub lines_in : Entries → Entries → List (List ℕ) → List ℕ
lines_in old new names =
    flat_map
    (λ name. lines_of_rest old_mark name (find byte_order name old)
    ++ lines_of_rest new_mark name (find byte_order name new)) names

worked-lines_of_rest : (lines_of_rest old_mark (codes "A") None ≡ [])
    × (lines_of_rest old_mark (codes "A") (Some (codes ": b\n c\n")) ≡ codes " -A: b\n - c\n")
worked-lines_of_rest = (refl, refl)

worked-lines_in : lines_in ((codes "A", codes ": 1\n") ∷ (codes "B", codes ": 2\n") ∷ [])
    ((codes "B", codes ": 3\n") ∷ []) (codes "A" ∷ codes "B" ∷ [])
    ≡ codes " -A: 1\n -B: 2\n +B: 3\n"
worked-lines_in = refl
