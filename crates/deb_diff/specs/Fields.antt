-- Which fields of two paragraphs differ. Debian Policy 5.1.
use Rattle.std.specs.Prelude.{◌≡◌, ℕ, Bool, true, false, not, List, [], ◌∷◌, map, Option, None, Some, codes, refl}
use Rattle.std.specs.BTreeMap.{insert_entry}
use Rattle.std.specs.FinMap.{find}
use Rattle.std.specs.List.{filter}
use Rattle.std.specs.Str.{bytes_eq}
use Rattle.deb_syntax.specs.Meaning.{Entries, byte_order}

-- the fields of one paragraph and those that only the other one has, in ascending order of names
abbrev pub fields_of_both : Entries → Entries → Entries
fields_of_both old [] = old
fields_of_both old (field ∷ new) =
    fields_of_both (insert_entry byte_order old field.0 field.1) new

-- both are missing, or both are there and equal
abbrev pub is_same_body : Option (List ℕ) → Option (List ℕ) → Bool
is_same_body None None = true
is_same_body None (Some other) = false
is_same_body (Some body) None = false
is_same_body (Some body) (Some other) = bytes_eq body other

-- the field with a name differs, or is in one of them only
abbrev pub differs : Entries → Entries → List ℕ → Bool
differs old new name = not (is_same_body (find byte_order name old) (find byte_order name new))

-- the names of the fields that do, ascending
abbrev pub differing : Entries → Entries → List (List ℕ)
differing old new = filter (differs old new) (map (λ field. field.0) (fields_of_both old new))

abbrev one : Entries
one =
    (codes "Bb", codes "1") ∷ (codes "Cc", codes "2") ∷ (codes "Dd", codes "3")
    ∷ (codes "Ff", codes "5") ∷ []

abbrev other : Entries
other =
    (codes "Aa", codes "0") ∷ (codes "Bb", codes "1") ∷ (codes "Dd", codes "4")
    ∷ (codes "Ee", codes "5") ∷ []

-- a first, a last and an inner name that is in one of them only, another value, and an equal one
worked-differing : (differing one other
    ≡ codes "Aa" ∷ codes "Cc" ∷ codes "Dd" ∷ codes "Ee" ∷ codes "Ff" ∷ [])
    × (differing other one
    ≡ codes "Aa" ∷ codes "Cc" ∷ codes "Dd" ∷ codes "Ee" ∷ codes "Ff" ∷ [])
    × (differing one one ≡ []) × (differing [] [] ≡ [])
    × (differing [] ((codes "Aa", []) ∷ []) ≡ codes "Aa" ∷ [])
worked-differing = (refl, refl, refl, refl, refl)
