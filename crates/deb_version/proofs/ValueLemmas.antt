-- The value of a run of digits, as a loop computes it.
use Rattle.deb_version.proofs.Common.{ℕ, ◌+◌, ◌-◌, ◌*◌, ◌≤◌, List, [], ◌∷◌, arith, value_after}

-- more digits make no smaller value
pub value_after-le : (n : ℕ) (digits : List ℕ) → n ≤ value_after n digits
value_after-le n [] = omega arith
value_after-le n (digit ∷ digits) = let later : 10 * n + (digit - 48) ≤ value_after (10 * n + (digit - 48)) digits = value_after-le (10 * n + (digit - 48)) digits in omega arith
