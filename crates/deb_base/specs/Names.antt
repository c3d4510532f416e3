-- Names of fields without ASCII case (Debian Policy 5.1: names are not case-sensitive), and the one
-- spelling in which canonical text has them (this project's own).
use Rattle.std.specs.Prelude.{◌≡◌, ◌↔◌, ℕ, Bool, true, false, if◌then◌else◌, ◌==◌, not, List, [], ◌∷◌, map, codes, refl}
use Rattle.std.specs.List.{filter, range_with_len}
use Rattle.std.specs.Str.{bytes_eq}
use Rattle.std.specs.Char.{to_ascii_lowercase, to_ascii_uppercase}

-- a name with its ASCII letters in lower case: names are the same if these are equal
abbrev pub folded : List ℕ → List ℕ
folded name = map to_ascii_lowercase name

-- a name whose first letter is in upper case if it begins a word, with each letter after a hyphen
-- in upper case, and all other letters in lower case; a hyphen is byte 45
abbrev pub capitalised : Bool → List ℕ → List ℕ
capitalised begins [] = []
capitalised begins (c ∷ cs) =
    (if begins then to_ascii_uppercase c else to_ascii_lowercase c) ∷ capitalised (c == 45) cs

-- the canonical spelling: the letter at the start and after each hyphen in upper case, all other
-- letters in lower case; other bytes stay
abbrev pub canonical_name : List ℕ → List ℕ
canonical_name name = capitalised true name

-- two names have one canonical spelling exactly where they are equal without ASCII case
abbrev pub CanonicalNameTellsSameNames : Type 0
CanonicalNameTellsSameNames =
    (a b : List ℕ) → (folded a ≡ folded b) ↔ (canonical_name a ≡ canonical_name b)

-- the canonical spelling is its own
abbrev pub CanonicalNameIsStable : Type 0
CanonicalNameIsStable = (name : List ℕ) → canonical_name (canonical_name name) ≡ canonical_name name

-- a name is the same as its canonical spelling
abbrev pub CanonicalNameIsSameName : Type 0
CanonicalNameIsSameName = (name : List ℕ) → folded (canonical_name name) ≡ folded name

name_of_checksum : canonical_name (codes "MD5sum") ≡ codes "Md5sum"
name_of_checksum = refl

name_of_hyphens : canonical_name (codes "x--1A") ≡ codes "X--1a"
name_of_hyphens = refl

name_of_version : canonical_name (codes "vERSION") ≡ codes "Version"
name_of_version = refl

name_of_depends : canonical_name (codes "PRE-depends") ≡ codes "Pre-Depends"
name_of_depends = refl

name_of_other : canonical_name (codes "a_b-@c[") ≡ codes "A_b-@c["
name_of_other = refl

fold_of_name : folded (codes "X-Foo_1[") ≡ codes "x-foo_1["
fold_of_name = refl

-- after no other byte than a hyphen is a letter in upper case
name_of_dots : canonical_name (codes "a.b+c~d/e") ≡ codes "A.b+c~d/e"
name_of_dots = refl

bytes_before_capitals : filter (λ b. bytes_eq (capitalised false (b ∷ 120 ∷ [])) (b ∷ 88 ∷ []))
    (range_with_len 0 256) ≡ codes "-"
bytes_before_capitals = refl

-- of all bytes those that change: capital letters without case, and others at the start of a name
bytes_folded : filter (λ b. not (bytes_eq (folded (b ∷ [])) (b ∷ []))) (range_with_len 0 256)
    ≡ codes "ABCDEFGHIJKLMNOPQRSTUVWXYZ"
bytes_folded = refl

bytes_capitalised : filter (λ b. not (bytes_eq (canonical_name (b ∷ [])) (b ∷ [])))
    (range_with_len 0 256) ≡ codes "abcdefghijklmnopqrstuvwxyz"
bytes_capitalised = refl
