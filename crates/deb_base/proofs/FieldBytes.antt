-- The bytes of a name and of the spaces and tabs around a body are ASCII; ASCII bytes around a text.
use Rattle.std.proofs.Common.{◌≡◌, ℕ, ◌<◌, ◌≤◌, Bool, true, IsTrue, List, [], ◌∷◌, ◌++◌, refl, subst, arith}
use Rattle.std.proofs.lemmas.Bool.{and_parts}
use Rattle.std.proofs.lemmas.Bool.Decides.{nat_tests}
use Rattle.std.proofs.lemmas.List.{append-nil}
use Rattle.std.specs.List.{AllByRecursion, list_all}
use Rattle.std.specs.Str.{IsUtf8}
use Rattle.deb_base.specs.Bodies.{is_blank_byte, is_all_blank}
use Rattle.deb_base.specs.FieldNames.{is_name_byte, may_begin_name, is_name}
use Rattle.deb_base.proofs.TextLines.{IsUtf8-after_ascii, IsUtf8-before_ascii, IsUtf8-with_ascii}

-- what a test of all elements says of each
pub each_from_list_all : {X : Type 0} (test : X → Bool) (P : X → Type 0) → ((x : X) → test x ≡ true → P x) → (xs : List X) → list_all test xs ≡ true → AllByRecursion P xs
each_from_list_all test P says [] h = tt
each_from_list_all test P says (x ∷ xs) h =
    let parts = and_parts (test x) (list_all test xs) h in
    (says x parts.0, each_from_list_all test P says xs parts.1)

-- a byte of a name is graphic, and no colon
pub name_byte_is : (b : ℕ) → is_name_byte b ≡ true → (33 ≤ b) × (b < 128)
name_byte_is b h = grind (arith, nat_tests)

pub blank_byte_is : (b : ℕ) → is_blank_byte b ≡ true → b < 128
blank_byte_is b h = grind (arith, nat_tests)

-- all bytes of a name are bytes that a name may have
pub each_name_byte : (name : List ℕ) → IsTrue (is_name name) → list_all is_name_byte name ≡ true
each_name_byte [] h = refl
each_name_byte (b ∷ bs) h = (and_parts (may_begin_name b) (list_all is_name_byte (b ∷ bs)) h).1

pub name_is_ascii : (name : List ℕ) → IsTrue (is_name name) → AllByRecursion (λ b. b < 128) name
name_is_ascii name h = each_from_list_all is_name_byte (λ b. b < 128) (λ b t. (name_byte_is b t).1) name (each_name_byte name h)

pub blanks_are_ascii : (blanks : List ℕ) → IsTrue (is_all_blank blanks) → AllByRecursion (λ b. b < 128) blanks
blanks_are_ascii blanks h = each_from_list_all is_blank_byte (λ b. b < 128) blank_byte_is blanks h

-- a text without the ASCII bytes before it
pub IsUtf8-after_all_ascii : (front text : List ℕ) → AllByRecursion (λ b. b < 128) front → IsUtf8 (front ++ text) → IsUtf8 text
IsUtf8-after_all_ascii [] text h u = u
IsUtf8-after_all_ascii (b ∷ front) text h u = IsUtf8-after_all_ascii front text h.1 (IsUtf8-after_ascii b (front ++ text) h.0 u)

-- a text without the ASCII bytes after it
pub IsUtf8-before_all_ascii : (text back : List ℕ) → AllByRecursion (λ b. b < 128) back → IsUtf8 (text ++ back) → IsUtf8 text
IsUtf8-before_all_ascii text [] h u = subst IsUtf8 (append-nil text) u
IsUtf8-before_all_ascii text (b ∷ back) h u = IsUtf8-before_ascii text b back h.0 u

-- ASCII bytes before a text
pub IsUtf8-with_all_ascii : (front text : List ℕ) → AllByRecursion (λ b. b < 128) front → IsUtf8 text → IsUtf8 (front ++ text)
IsUtf8-with_all_ascii [] text h u = u
IsUtf8-with_all_ascii (b ∷ front) text h u = IsUtf8-with_ascii b (front ++ text) h.0 (IsUtf8-with_all_ascii front text h.1 u)
