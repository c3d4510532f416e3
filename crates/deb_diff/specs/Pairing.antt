-- Which elements of two lists are paired by a key: the i-th that has it with the i-th (this
-- project's own).
use Rattle.std.specs.Prelude.{◌≡◌, ℕ, cond, List, [], ◌∷◌, Option, Some, None, codes, refl}
use Rattle.std.specs.Str.{bytes_eq}

-- the earliest with this key
abbrev pub earliest : {X : Type 0} → (X → List ℕ) → List ℕ → List X → Option X
earliest key wanted [] = None
earliest key wanted (x ∷ xs) = cond (bytes_eq (key x) wanted) (Some x) (earliest key wanted xs)

-- all but the earliest with this key
abbrev pub all_but : {X : Type 0} → (X → List ℕ) → List ℕ → List X → List X
all_but key wanted [] = []
all_but key wanted (x ∷ xs) = cond (bytes_eq (key x) wanted) xs (x ∷ all_but key wanted xs)

-- What is left of one list without another: for each element of the other one, the earliest with
-- its key is taken away.
abbrev pub without : {X : Type 0} → (X → List ℕ) → List X → List X → List X
without key xs [] = xs
without key xs (y ∷ ys) = without key (all_but key (key y) xs) ys

-- what is left of a list: for each of these keys, the earliest that has it is taken away
abbrev pub without_keys : {X : Type 0} → (X → List ℕ) → List X → List (List ℕ) → List X
without_keys key xs [] = xs
without_keys key xs (wanted ∷ keys) = without_keys key (all_but key wanted xs) keys

-- For words whose key is their first byte: the first of three, and none.
abbrev first_byte : List ℕ → List ℕ
first_byte [] = []
first_byte (b ∷ bs) = b ∷ []

abbrev three : List (List ℕ)
three = codes "xa" ∷ codes "y" ∷ codes "xb" ∷ []

worked-earliest : (earliest first_byte (codes "x") three ≡ Some (codes "xa"))
    × (earliest first_byte (codes "z") three ≡ None)
worked-earliest = (refl, refl)

worked-all_but : (all_but first_byte (codes "x") three ≡ codes "y" ∷ codes "xb" ∷ [])
    × (all_but first_byte (codes "z") three ≡ three)
worked-all_but = (refl, refl)

-- two of a key less one, less three, less none of them; the later one is left, also if a list is in
-- another order
worked-without : (without first_byte three (codes "x" ∷ []) ≡ codes "y" ∷ codes "xb" ∷ [])
    × (without first_byte three (codes "x" ∷ codes "x" ∷ codes "x" ∷ []) ≡ codes "y" ∷ [])
    × (without first_byte three (codes "z" ∷ []) ≡ three)
    × (without first_byte three (codes "y" ∷ codes "x" ∷ []) ≡ codes "xb" ∷ [])
    × (without first_byte [] three ≡ []) × (without first_byte three [] ≡ three)
worked-without = (refl, refl, refl, refl, refl, refl)

worked-without_keys : (without_keys first_byte three (codes "x" ∷ codes "z" ∷ [])
    ≡ codes "y" ∷ codes "xb" ∷ [])
    × (without_keys first_byte three (codes "x" ∷ codes "x" ∷ []) ≡ codes "y" ∷ [])
    × (without_keys first_byte three [] ≡ three)
worked-without_keys = (refl, refl, refl)
