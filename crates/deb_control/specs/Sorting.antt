-- The order in which the fields of a paragraph are in canonical text (this project's own).
use Rattle.std.specs.Prelude.{◌≡◌, ℕ, zero, suc, ◌+◌, ◌*◌, ◌^◌, Bool, true, false, List, [], ◌∷◌, codes, refl}
use Rattle.std.specs.Ordering.{is_lt}
use Rattle.deb_base.specs.Names.{canonical_name}
use Rattle.deb_syntax.specs.Meaning.{byte_order}

-- the canonical spelling of a name comes before that of another
abbrev pub name_before : List ℕ → List ℕ → Bool
name_before name other = is_lt (byte_order (canonical_name name) (canonical_name other))

-- The first k bytes of a text as one number, the first of them highest. A byte that is missing
-- counts as 0.
abbrev pub front_number : ℕ → List ℕ → ℕ
front_number zero bytes = 0
front_number (suc k) [] = 0
front_number (suc k) (b ∷ bs) = b * 256 ^ k + front_number k bs

-- the bytes of canonical spellings decide, neither those of the names as they are spelled nor those
-- of names in lower case: `A` before `_`, which comes before `a`
order_of_names : (name_before (codes "a") (codes "B") ≡ true)
    × (name_before (codes "x-a") (codes "x-_") ≡ true)
    × (name_before (codes "xa") (codes "x_") ≡ false)
    × (name_before (codes "A") (codes "a") ≡ false)
    × (name_before (codes "A") (codes "AA") ≡ true)
order_of_names = (refl, refl, refl, refl, refl)

-- the front of `ab` in three bytes and in one, and none of it
front_of_two_bytes : (front_number 3 (codes "ab") ≡ 6_382_080)
    × (front_number 1 (codes "ab") ≡ 97) × (front_number 0 (codes "ab") ≡ 0)
front_of_two_bytes = (refl, refl, refl)
