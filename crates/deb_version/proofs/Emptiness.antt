-- Whether a text is empty.
use Rattle.deb_version.proofs.Common.{◌≡◌, ◌≢◌, ℕ, ◌<◌, ◌==◌, true, List, [], ◌∷◌, ◌++◌, length, refl, arith, eqb-true, cons_not_nil}

pub nil_of_length : (text : List ℕ) → (length text == 0) ≡ true → text ≡ []
nil_of_length [] e = refl
nil_of_length (b ∷ text) e = absurd (omega (arith, eqb-true (length (b ∷ text)) 0 e))

pub some_length : (text : List ℕ) → text ≢ [] → 0 < length text
some_length [] some = absurd (some refl)
some_length (b ∷ text) some = omega arith

-- two texts one after the other, not both empty
pub append_some : (xs ys : List ℕ) → ys ≢ [] → (xs ++ ys) ≢ []
append_some [] ys some = some
append_some (x ∷ xs) ys some = cons_not_nil x (xs ++ ys)

pub append_some_front : (xs ys : List ℕ) → xs ≢ [] → (xs ++ ys) ≢ []
append_some_front [] ys some = absurd (some refl)
append_some_front (x ∷ xs) ys some = cons_not_nil x (xs ++ ys)
