-- How much is taken of a reader: no more than what may be looked at, and one piece.
use Rattle.deb_syntax.proofs.Common.{ℕ, ◌+◌, ◌-◌, ◌<◌, ◌≤◌, Bool, true, false, cond, IsFalse, refl, List, Option, Some, None, length, ap, arith, length-append, Consumes, file_limit, Takes}

pub takes_none : (n m : ℕ) (left : Option (List ℕ)) → n ≤ m → Takes n left m left
takes_none n m left le = record { shown = λ s. s; few = omega arith }

pub takes_more : (n m k q : ℕ) (a b : Option (List ℕ)) → Takes n a m b → k ≤ n → m ≤ q → Takes k a q b
takes_more n m k q a b t less more = record { shown = t.shown; few = omega (arith, t.few) }

-- more is taken
pub takes_then : (n m k p q : ℕ) (a b c : Option (List ℕ)) → Takes n a m b → Takes k b p c → m + p ≤ q + k → Takes n a q c
takes_then n m k p q a b c t u le = record { shown = λ s. u.shown (t.shown s); few = omega (arith, t.few, u.few) }

pub consumes_takes : (left left_after : Option (List ℕ)) (bytes : List ℕ) → Consumes left left_after bytes → Takes 0 left (length bytes) left_after
consumes_takes None left_after bytes c = record { shown = λ s. absurd cc; few = omega arith }
consumes_takes (Some xs) None bytes c = absurd c
consumes_takes (Some xs) (Some ys) bytes c = record { shown = λ s. s; few = omega (arith, ap length c, length-append bytes ys) }

-- how much may still come, where so much of a file has come
abbrev pub still : ℕ → Bool → ℕ
still n ended = ((file_limit + 1) - n) + cond ended 0 1

pub still-less : (n k : ℕ) (ended : Bool) → n ≤ file_limit → (IsFalse ended → 0 < k) → still (n + k) ended < still n false
still-less n k true small more = omega arith
still-less n k false small more = omega (arith, more refl, small)
