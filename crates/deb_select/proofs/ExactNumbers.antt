-- Digits whose number is too great to be exact in each reader of JSON.
use Rattle.std.proofs.Common.{◌≡◌, ℕ, zero, suc, ◌+◌, ◌-◌, ◌*◌, ◌<◌, ◌≤◌, cond, List, [], ◌∷◌, get_or, length, drop, None, Some, refl, sym, ap, ◌∙◌, arith, leb}
use Rattle.std.proofs.lemmas.Bool.{lt-leb}
use Rattle.deb_version.specs.Parts.{value_after, value_of}

value-least : (n : ℕ) (digits : List ℕ) → n ≤ value_after n digits
value-least n [] = omega arith
value-least n (digit ∷ digits) = omega (arith, value-least (10 * n + (digit - 48)) digits)

drop-next : (digits : List ℕ) (i : ℕ) → i < length digits → drop i digits ≡ get_or digits i 0 ∷ drop (suc i) digits
drop-next [] i below = absurd (omega (arith, below))
drop-next (digit ∷ digits) zero below = refl
drop-next (digit ∷ digits) (suc i) below = drop-next digits i (omega (arith, below))

pub too_great : (value most step : ℕ) (digits : List ℕ) (i : ℕ) → i < length digits → value_after value (drop i digits) ≡ value_of digits → step ≡ get_or digits i 0 - 48 → most < 10 * value + step
    → None ≡ cond (leb (value_of digits) most) (Some (value_of digits)) None
too_great value most step digits i below so_far is great = ap (λ t. cond t (Some (value_of digits)) None) (sym (lt-leb (value_of digits) most more))
  where
    least : 10 * value + (get_or digits i 0 - 48) ≤ value_of digits
    least =
        let at : value_after (10 * value + (get_or digits i 0 - 48)) (drop (suc i) digits) ≡ value_of digits = ap (value_after value) (sym (drop-next digits i below)) ∙ so_far in
        omega (arith, at, value-least (10 * value + (get_or digits i 0 - 48)) (drop (suc i) digits))

    more : most < value_of digits
    more = omega (arith, least, is, great)
