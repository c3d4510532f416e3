-- Names without ASCII case and their canonical spelling.
use Rattle.std.proofs.Common.{◌≡◌, ℕ, Bool, true, false, eqb, List, [], ◌∷◌, length, refl, sym, ap, ◌∙◌, arith}
use Rattle.std.proofs.lemmas.Bool.Decides.{nat_tests}
use Rattle.std.specs.Char.{to_ascii_lowercase, to_ascii_uppercase}
use Rattle.deb_base.specs.Names.{folded, capitalised, canonical_name}

pub lower-lower : (c : ℕ) → to_ascii_lowercase (to_ascii_lowercase c) ≡ to_ascii_lowercase c
lower-lower c = grind (arith, nat_tests)

pub lower-upper : (c : ℕ) → to_ascii_lowercase (to_ascii_uppercase c) ≡ to_ascii_lowercase c
lower-upper c = grind (arith, nat_tests)

pub upper-lower : (c : ℕ) → to_ascii_uppercase (to_ascii_lowercase c) ≡ to_ascii_uppercase c
upper-lower c = grind (arith, nat_tests)

-- folding changes no hyphen, and makes none
pub hyphen-lower : (c : ℕ) → eqb (to_ascii_lowercase c) 45 ≡ eqb c 45
hyphen-lower c = grind (arith, nat_tests)

pub folded-capitalised : (begins : Bool) (name : List ℕ) → folded (capitalised begins name) ≡ folded name
folded-capitalised begins [] = refl
folded-capitalised true (c ∷ cs) = rw (lower-upper c, folded-capitalised (eqb c 45) cs)
folded-capitalised false (c ∷ cs) = rw (lower-lower c, folded-capitalised (eqb c 45) cs)

pub capitalised-folded : (begins : Bool) (name : List ℕ) → capitalised begins (folded name) ≡ capitalised begins name
capitalised-folded begins [] = refl
capitalised-folded true (c ∷ cs) = rw (upper-lower c, hyphen-lower c, capitalised-folded (eqb c 45) cs)
capitalised-folded false (c ∷ cs) = rw (lower-lower c, hyphen-lower c, capitalised-folded (eqb c 45) cs)

-- a name is the same as its canonical spelling
pub folded-canonical_name : (name : List ℕ) → folded (canonical_name name) ≡ folded name
folded-canonical_name name = folded-capitalised true name

-- the canonical spelling goes by the folded name alone
pub canonical_name-folded : (name : List ℕ) → canonical_name (folded name) ≡ canonical_name name
canonical_name-folded name = capitalised-folded true name

-- the canonical spelling is its own
pub canonical_name-canonical_name : (name : List ℕ) → canonical_name (canonical_name name) ≡ canonical_name name
canonical_name-canonical_name name =
    sym (canonical_name-folded (canonical_name name)) ∙ ap canonical_name (folded-canonical_name name) ∙ canonical_name-folded name

-- names that are the same have one canonical spelling
pub canonical_name-from_folded : (a b : List ℕ) → folded a ≡ folded b → canonical_name a ≡ canonical_name b
canonical_name-from_folded a b same = sym (canonical_name-folded a) ∙ ap canonical_name same ∙ canonical_name-folded b

-- names with one canonical spelling are the same
pub folded-from_canonical_name : (a b : List ℕ) → canonical_name a ≡ canonical_name b → folded a ≡ folded b
folded-from_canonical_name a b same = sym (folded-canonical_name a) ∙ ap folded same ∙ folded-canonical_name b

pub length-capitalised : (begins : Bool) (name : List ℕ) → length (capitalised begins name) ≡ length name
length-capitalised begins [] = refl
length-capitalised begins (c ∷ cs) = omega (arith, length-capitalised (eqb c 45) cs)
