-- The order of the values of runs of digits, read off the runs.
use Rattle.deb_version.proofs.Common.{◌≡◌, ◌≢◌, ℕ, zero, suc, ◌+◌, ◌-◌, ◌*◌, ◌<◌, ◌≤◌, List, [], ◌∷◌, ◌++◌, length, replicate, drop, inl, inr, refl, sym, ap, ◌∙◌, IsTrue, arith, is_ascii_digit, list_all, nat_cmp, ordering_reverse, ordering_then, MatchOrdering, ranks, nat_cmp_is, nat_cmp_total, slice_cmp, Ordering, Less, Equal, Greater, length-append, length-replicate, cases_lt, true≢false, nat_tests, IsDigits, value_after, value_of}
use Rattle.deb_version.proofs.BaseOrder.{before-Equal, ordering_then_assoc}
use Rattle.deb_version.proofs.ByteLemmas.{all_pass-fact}
use Rattle.deb_version.proofs.FirstPlace.{StartsWith}
use Rattle.deb_version.proofs.LeadingZeros.{is_nonzero, without_zeros, value_of-without_zeros, without_zeros-starts}

-- two numbers with one more digit each
nat_cmp-digit : (n m a b : ℕ) → a < 10 → b < 10 → nat_cmp (10 * n + a) (10 * m + b) ≡ ordering_then (nat_cmp n m) (nat_cmp a b)
nat_cmp-digit n m a b p q =
    sym (nat_cmp_is _ _ (ordering_then (nat_cmp n m) (nat_cmp a b)) (by_ranks (nat_cmp n m) (nat_cmp a b) (ranks n m) (ranks a b)))
  where
    by_ranks : (r s : Ordering) → MatchOrdering r (n < m) (n ≡ m) (m < n) → MatchOrdering s (a < b) (a ≡ b) (b < a)
        → MatchOrdering (ordering_then r s) (10 * n + a < 10 * m + b) (10 * n + a ≡ 10 * m + b) (10 * m + b < 10 * n + a)
    by_ranks Less s h k = omega arith
    by_ranks Equal Less h k = omega arith
    by_ranks Equal Equal h k = omega arith
    by_ranks Equal Greater h k = omega arith
    by_ranks Greater s h k = omega arith

-- two codes of digits are in the order of the digits
nat_cmp-code : (a b : ℕ) → 48 ≤ a → 48 ≤ b → nat_cmp (a - 48) (b - 48) ≡ nat_cmp a b
nat_cmp-code a b p q =
    sym (nat_cmp_is _ _ (nat_cmp a b) (by_ranks (nat_cmp a b) (ranks a b)))
  where
    by_ranks : (r : Ordering) → MatchOrdering r (a < b) (a ≡ b) (b < a) → MatchOrdering r (a - 48 < b - 48) (a - 48 ≡ b - 48) (b - 48 < a - 48)
    by_ranks Less h = omega arith
    by_ranks Equal h = omega arith
    by_ranks Greater h = omega arith

-- the code of a digit
pub digit_range : (b : ℕ) → IsTrue (is_ascii_digit b) → (48 ≤ b) × (b ≤ 57)
digit_range b d = (grind (arith, nat_tests), grind (arith, nat_tests))

-- runs of one length after digits of the values n and m: these decide first, and then the bytes
value_after_cmp : (n m : ℕ) (r s : List ℕ) → IsDigits r → IsDigits s → length r ≡ length s
    → nat_cmp (value_after n r) (value_after m s) ≡ ordering_then (nat_cmp n m) (slice_cmp nat_cmp r s)
value_after_cmp n m [] [] p q e = sym (before-Equal (nat_cmp n m))
value_after_cmp n m [] (b ∷ s) p q e = absurd (omega arith)
value_after_cmp n m (a ∷ r) [] p q e = absurd (omega arith)
value_after_cmp n m (a ∷ r) (b ∷ s) p q e =
    let in_a = digit_range a p.0 in
    let in_b = digit_range b q.0 in
    value_after_cmp (10 * n + (a - 48)) (10 * m + (b - 48)) r s p.1 q.1 (omega arith)
    ∙ ap (λ v. ordering_then v (slice_cmp nat_cmp r s))
    (nat_cmp-digit n m (a - 48) (b - 48) (omega arith) (omega arith) ∙ ap (ordering_then (nat_cmp n m)) (nat_cmp-code a b in_a.0 in_b.0))
    ∙ ordering_then_assoc (nat_cmp n m) (nat_cmp a b) (slice_cmp nat_cmp r s)

-- Of two runs of one length the bytes decide.
pub value_of_cmp : (r s : List ℕ) → IsDigits r → IsDigits s → length r ≡ length s → nat_cmp (value_of r) (value_of s) ≡ slice_cmp nat_cmp r s
value_of_cmp = value_after_cmp 0 0

-- leading zeros don't count
pub value_of_zeros : (k : ℕ) (r : List ℕ) → value_of (replicate k 48 ++ r) ≡ value_of r
value_of_zeros zero r = refl
value_of_zeros (suc k) r = value_of_zeros k r

IsDigits-zeros : (k : ℕ) (r : List ℕ) → IsDigits r → IsDigits (replicate k 48 ++ r)
IsDigits-zeros zero r p = p
IsDigits-zeros (suc k) r p = (refl, IsDigits-zeros k r p)

-- Of two runs the longer has the greater value, if it doesn't begin with a zero.
pub value_of_longer : (r : List ℕ) (b : ℕ) (s : List ℕ) → IsDigits r → IsDigits (b ∷ s) → b ≢ 48 → length r ≤ length s
    → nat_cmp (value_of r) (value_of (b ∷ s)) ≡ Less
value_of_longer r b s p q nonzero short =
    let k = length s - length r in
    let in_b = digit_range b q.0 in
    ap (λ v. nat_cmp v (value_of (b ∷ s))) (sym (value_of_zeros (suc k) r))
    ∙ value_of_cmp (48 ∷ (replicate k 48 ++ r)) (b ∷ s) (IsDigits-zeros (suc k) r p) q (simp (length-append, length-replicate) (omega arith))
    ∙ ap (λ v. ordering_then v (slice_cmp nat_cmp (replicate k 48 ++ r) s)) (sym (nat_cmp_is 48 b Less (omega arith)))

pub IsDigits-drop : (n : ℕ) (run : List ℕ) → IsDigits run → IsDigits (drop n run)
IsDigits-drop zero run d = d
IsDigits-drop (suc n) [] d = tt
IsDigits-drop (suc n) (b ∷ run) d = IsDigits-drop n run d.1

-- the order of values, read off two runs without leading zeros: by length, then byte by byte
run_cmp : (a b : List ℕ) → IsDigits a → IsDigits b → StartsWith is_nonzero a → StartsWith is_nonzero b
    → nat_cmp (value_of a) (value_of b) ≡ ordering_then (nat_cmp (length a) (length b)) (slice_cmp nat_cmp a b)
run_cmp a b da db za zb =
    elim (cases_lt (length a) (length b)) [
      | inl shorter ↦ longer_cmp a b da db zb shorter ∙ ap (λ o. ordering_then o (slice_cmp nat_cmp a b)) (nat_cmp_is (length a) (length b) Less shorter)
      | inr no_shorter ↦ elim (cases_lt (length b) (length a)) [
        | inl longer ↦
            nat_cmp_total.antisymm (value_of a) (value_of b) ∙ ap ordering_reverse (longer_cmp b a db da za longer)
            ∙ ap (λ o. ordering_then o (slice_cmp nat_cmp a b)) (nat_cmp_is (length a) (length b) Greater longer)
        | inr no_longer ↦
            let same : length a ≡ length b = omega arith in
            value_of_cmp a b da db same ∙ ap (λ o. ordering_then o (slice_cmp nat_cmp a b)) (nat_cmp_is (length a) (length b) Equal same)
      ]
    ]
  where
    longer_cmp : (r s : List ℕ) → IsDigits r → IsDigits s → StartsWith is_nonzero s → length r < length s → nat_cmp (value_of r) (value_of s) ≡ Less
    longer_cmp r [] dr ds z l = absurd (omega arith)
    longer_cmp r (b ∷ s) dr ds z l =
        value_of_longer r b s dr ds (λ e. true≢false (sym z ∙ ap is_nonzero e)) (omega arith)

-- The order of the values of two runs of digits is that of their lengths without leading zeros, and then of their bytes.
pub value_of-order : (a b : List ℕ) → IsDigits a → IsDigits b
    → nat_cmp (value_of a) (value_of b) ≡ ordering_then (nat_cmp (length (without_zeros a)) (length (without_zeros b))) (slice_cmp nat_cmp (without_zeros a) (without_zeros b))
value_of-order a b da db =
    ap (λ v. nat_cmp v (value_of b)) (sym (value_of-without_zeros a)) ∙ ap (nat_cmp (value_of (without_zeros a))) (sym (value_of-without_zeros b))
    ∙ run_cmp (without_zeros a) (without_zeros b) (IsDigits-drop _ a da) (IsDigits-drop _ b db) (without_zeros-starts a) (without_zeros-starts b)

-- the same, of what is left of the runs without their leading zeros
pub value_of-order-at : (a b x y : List ℕ) → IsTrue (list_all is_ascii_digit a) → IsTrue (list_all is_ascii_digit b) → x ≡ without_zeros a → y ≡ without_zeros b
    → ordering_then (nat_cmp (length x) (length y)) (slice_cmp nat_cmp x y) ≡ nat_cmp (value_of a) (value_of b)
value_of-order-at a b x y da db x-at y-at =
    ap (λ l. ordering_then (nat_cmp (length l) (length y)) (slice_cmp nat_cmp l y)) x-at
    ∙ ap (λ l. ordering_then (nat_cmp (length (without_zeros a)) (length l)) (slice_cmp nat_cmp (without_zeros a) l)) y-at
    ∙ sym (value_of-order a b (all_pass-fact is_ascii_digit a da) (all_pass-fact is_ascii_digit b db))
