-- A run of digits without its leading zeros.
use Rattle.deb_version.proofs.Common.{◌≡◌, ◌≢◌, ℕ, ◌+◌, ◌-◌, ◌*◌, ◌==◌, Bool, true, false, cond, not, List, [], ◌∷◌, drop, refl, sym, ap, ◌∙◌, one-add, prefix_len, eqb-true, eqb-false, ne_eqb, Decides-eqb, value_after, value_of}
use Rattle.deb_version.proofs.FirstPlace.{StartsWith}

abbrev pub is_nonzero : ℕ → Bool
is_nonzero b = not (b == 48)

abbrev pub without_zeros : List ℕ → List ℕ
without_zeros run = drop (prefix_len (λ b. b == 48) run) run

pub without_zeros-zero : (b : ℕ) (run : List ℕ) → b ≡ 48 → without_zeros (b ∷ run) ≡ without_zeros run
without_zeros-zero b run e =
    ap (λ v. drop (cond v (1 + prefix_len (λ c. c == 48) run) 0) (b ∷ run)) ((Decides-eqb b 48).1 e) ∙ ap (λ n. drop n (b ∷ run)) (one-add (prefix_len (λ c. c == 48) run))

pub without_zeros-other : (b : ℕ) (run : List ℕ) → b ≢ 48 → without_zeros (b ∷ run) ≡ b ∷ run
without_zeros-other b run e = ap (λ v. drop (cond v (1 + prefix_len (λ c. c == 48) run) 0) (b ∷ run)) (ne_eqb b 48 e)

pub value_of-zero : (b : ℕ) (run : List ℕ) → b ≡ 48 → value_of (b ∷ run) ≡ value_of run
value_of-zero b run e = ap (λ c. value_after (10 * 0 + (c - 48)) run) e

-- a byte is a zero, or it isn't
pub by_zero : (P : Bool → Type 0) (b : ℕ) → (b ≡ 48 → P true) → (b ≢ 48 → P false) → P (b == 48)
by_zero P b is other = elim (b == 48) as (λ v. (b == 48) ≡ v → P v) [ true ↦ λ e. is (eqb-true b 48 e) | false ↦ λ e. other (eqb-false b 48 e) ] refl

-- The value stays.
pub value_of-without_zeros : (run : List ℕ) → value_of (without_zeros run) ≡ value_of run
value_of-without_zeros [] = refl
value_of-without_zeros (b ∷ run) =
    by_zero (λ _. value_of (without_zeros (b ∷ run)) ≡ value_of (b ∷ run)) b
    (λ is. ap value_of (without_zeros-zero b run is) ∙ value_of-without_zeros run ∙ sym (value_of-zero b run is)) (λ other. ap value_of (without_zeros-other b run other))

-- What is left, if anything, begins with no zero.
pub without_zeros-starts : (run : List ℕ) → StartsWith is_nonzero (without_zeros run)
without_zeros-starts [] = tt
without_zeros-starts (b ∷ run) =
    by_zero (λ _. StartsWith is_nonzero (without_zeros (b ∷ run))) b
    (λ is. rw (without_zeros-zero b run is) (without_zeros-starts run)) (λ other. rw (without_zeros-other b run other) (ap not (ne_eqb b 48 other)))
