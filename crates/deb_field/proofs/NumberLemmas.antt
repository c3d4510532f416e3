-- Digits with and without leading zeros.
use Rattle.std.proofs.Common.{◌≡◌, ◌≢◌, ℕ, ◌==◌, ◌≤◌, Bool, true, false, IsTrue, List, [], ◌∷◌, length, get_or, refl, sym, ap, ◌∙◌, subst, arith}
use Rattle.std.proofs.lemmas.Bool.{eqb-true, eqb-false}
use Rattle.deb_version.specs.Parts.{value_of}
use Rattle.deb_version.specs.Canonical.{digits_of}
use Rattle.deb_version.proofs.CanonicalDigits.{value_of-digits_of, IsDigits-digits_of, digits_of-some, digits_of-value_of}
use Rattle.deb_field.specs.NumberLaw.{number_spelled, are_digits-test}
use Rattle.deb_field.specs.Numbers.{SpellsNumber, are_digits}

-- digits that don't begin with a zero are canonical, and so is one digit
pub canonical-other : (b : ℕ) (bs : List ℕ) → IsTrue (are_digits (b ∷ bs)) → b ≢ 48 → b ∷ bs ≡ digits_of (value_of (b ∷ bs))
canonical-other b bs h other = sym (digits_of-value_of b bs (number_spelled (b ∷ bs) h).digits other)

-- the digits of a number are some
pub are_digits-digits_of : (n : ℕ) → IsTrue (are_digits (digits_of n))
are_digits-digits_of n = are_digits-test (digits_of n) n (record { some = digits_of-some n; digits = IsDigits-digits_of n; value = value_of-digits_of n })

-- one digit is canonical
one_digit : (b : ℕ) (zero : Bool) → (b == 48) ≡ zero → IsTrue (are_digits (b ∷ [])) → b ∷ [] ≡ digits_of (value_of (b ∷ []))
one_digit b true e h = let is = eqb-true b 48 e in rw is refl
one_digit b false e h = canonical-other b [] h (eqb-false b 48 e)

pub canonical-short : (text : List ℕ) → IsTrue (are_digits text) → length text ≤ 1 → text ≡ digits_of (value_of text)
canonical-short [] h short = cc
canonical-short (b ∷ []) h short = one_digit b (b == 48) refl h
canonical-short (b ∷ c ∷ bs) h short = absurd (omega arith)

pub canonical-first : (text : List ℕ) → IsTrue (are_digits text) → ((get_or text 0 0 ≡ 48) → ⊥) → text ≡ digits_of (value_of text)
canonical-first [] h first = cc
canonical-first (b ∷ bs) h first = canonical-other b bs h first

-- the digits of the value of a body that spells a number
pub spells-value : (body digits : List ℕ) → IsTrue (are_digits body) → digits ≡ digits_of (value_of body) → SpellsNumber body (value_of digits)
spells-value body digits h e = subst (SpellsNumber body) (sym (ap value_of e ∙ value_of-digits_of (value_of body))) (number_spelled body h)

pub canonical-again : (body digits : List ℕ) → digits ≡ digits_of (value_of body) → digits_of (value_of digits) ≡ digits
canonical-again body digits e = ap digits_of (ap value_of e ∙ value_of-digits_of (value_of body)) ∙ sym e

pub are_digits-again : (body digits : List ℕ) → digits ≡ digits_of (value_of body) → IsTrue (are_digits digits)
are_digits-again body digits e = subst (λ d. IsTrue (are_digits d)) (sym e) (are_digits-digits_of (value_of body))
