-- The canonical spelling of a name is a name.
use Rattle.deb_control.proofs.Common.{◌≡◌, ℕ, Bool, true, false, IsTrue, List, [], ◌∷◌, eqb, refl, arith, and_parts, and_from, nat_tests, list_all, to_ascii_lowercase, to_ascii_uppercase, capitalised, canonical_name, is_name_byte, may_begin_name, is_name}

is_name_byte-upper : (b : ℕ) → is_name_byte b ≡ true → is_name_byte (to_ascii_uppercase b) ≡ true
is_name_byte-upper b h = grind (arith, nat_tests)

is_name_byte-lower : (b : ℕ) → is_name_byte b ≡ true → is_name_byte (to_ascii_lowercase b) ≡ true
is_name_byte-lower b h = grind (arith, nat_tests)

may_begin_name-upper : (b : ℕ) → may_begin_name b ≡ true → may_begin_name (to_ascii_uppercase b) ≡ true
may_begin_name-upper b h = grind (arith, nat_tests)

name_bytes-capitalised : (begins : Bool) (bs : List ℕ) → list_all is_name_byte bs ≡ true → list_all is_name_byte (capitalised begins bs) ≡ true
name_bytes-capitalised begins [] h = refl
name_bytes-capitalised true (b ∷ bs) h =
    let parts = and_parts (is_name_byte b) (list_all is_name_byte bs) h in
    and_from (is_name_byte (to_ascii_uppercase b)) (list_all is_name_byte (capitalised (eqb b 45) bs)) (is_name_byte-upper b parts.0) (name_bytes-capitalised (eqb b 45) bs parts.1)
name_bytes-capitalised false (b ∷ bs) h =
    let parts = and_parts (is_name_byte b) (list_all is_name_byte bs) h in
    and_from (is_name_byte (to_ascii_lowercase b)) (list_all is_name_byte (capitalised (eqb b 45) bs)) (is_name_byte-lower b parts.0) (name_bytes-capitalised (eqb b 45) bs parts.1)

pub is_name-canonical_name : (name : List ℕ) → IsTrue (is_name name) → IsTrue (is_name (canonical_name name))
is_name-canonical_name [] h = h
is_name-canonical_name (b ∷ bs) h =
    let parts = and_parts (may_begin_name b) (list_all is_name_byte (b ∷ bs)) h in
    and_from (may_begin_name (to_ascii_uppercase b)) (list_all is_name_byte (capitalised true (b ∷ bs))) (may_begin_name-upper b parts.0) (name_bytes-capitalised true (b ∷ bs) parts.1)
