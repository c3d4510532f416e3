-- The order of numbers, read off their digits in a base, and of what follows them.
use Rattle.deb_version.proofs.Common.{◌≡◌, ℕ, ◌+◌, ◌*◌, ◌^◌, ◌<◌, ◌≤◌, List, [], ◌∷◌, ◌++◌, length, inl, inr, refl, sym, ap, ◌∙◌, arith, nat_cmp, ordering_then, MatchOrdering, ranks, nat_cmp_is, Ordering, Less, Equal, Greater, cases_lt}
use Rattle.std.proofs.Common.{mul-le-mul_right}
use Rattle.deb_version.specs.Keys.{byte_order}
use Rattle.std.specs.FinMap.{nat_cmp-IsAntisymmetric}
use Rattle.std.specs.Int.Digits.{digits_of, number_from_digits, number_from_digits_after, AllBelowBase}
use Rattle.std.proofs.lemmas.Int.Digits.{number_lt, length-digits_of-le, all_below_base_digits_of, number_digits_of}

-- three comparisons, one after the other
pub ordering_then_assoc : (r s t : Ordering) → ordering_then (ordering_then r s) t ≡ ordering_then r (ordering_then s t)
ordering_then_assoc Less s t = refl
ordering_then_assoc Equal s t = refl
ordering_then_assoc Greater s t = refl

-- a comparison before one that decides nothing
pub before-Equal : (r : Ordering) → ordering_then r Equal ≡ r
before-Equal Less = refl
before-Equal Equal = refl
before-Equal Greater = refl

-- two numbers with one more digit each
one_digit : (b m n d e : ℕ) → d < b → e < b → nat_cmp (m * b + d) (n * b + e) ≡ ordering_then (nat_cmp m n) (nat_cmp d e)
one_digit b m n d e p q =
    sym (nat_cmp_is _ _ (ordering_then (nat_cmp m n) (nat_cmp d e)) (by_ranks (nat_cmp m n) (nat_cmp d e) (ranks m n) (ranks d e)))
  where
    less : (i j c f : ℕ) → c < b → i < j → i * b + c < j * b + f
    less i j c f small before =
        let more : (i + 1) * b ≤ j * b = mul-le-mul_right b (omega arith) in
        omega arith

    by_ranks : (r s : Ordering) → MatchOrdering r (m < n) (m ≡ n) (n < m) → MatchOrdering s (d < e) (d ≡ e) (e < d)
        → MatchOrdering (ordering_then r s) (m * b + d < n * b + e) (m * b + d ≡ n * b + e) (n * b + e < m * b + d)
    by_ranks Less s h k = less m n d e p h
    by_ranks Equal Less h k = omega (arith, ap (λ i. i * b) h)
    by_ranks Equal Equal h k = omega (arith, ap (λ i. i * b) h)
    by_ranks Equal Greater h k = omega (arith, ap (λ i. i * b) h)
    by_ranks Greater s h k = less n m e d q h

-- digits of one length after the numbers m and n: these decide first, and then the digits
after_cmp : (b m n : ℕ) (ds es : List ℕ) → AllBelowBase b ds → AllBelowBase b es → length ds ≡ length es
    → nat_cmp (number_from_digits_after b m ds) (number_from_digits_after b n es) ≡ ordering_then (nat_cmp m n) (byte_order ds es)
after_cmp b m n [] [] p q same = sym (before-Equal (nat_cmp m n))
after_cmp b m n [] (e ∷ es) p q same = absurd (omega arith)
after_cmp b m n (d ∷ ds) [] p q same = absurd (omega arith)
after_cmp b m n (d ∷ ds) (e ∷ es) p q same =
    after_cmp b (m * b + d) (n * b + e) ds es p.1 q.1 (omega arith)
    ∙ ap (λ o. ordering_then o (byte_order ds es)) (one_digit b m n d e p.0 q.0)
    ∙ ordering_then_assoc (nat_cmp m n) (nat_cmp d e) (byte_order ds es)

-- fewer digits, the lower number
fewer_lower : (b m n : ℕ) → 2 ≤ b → length (digits_of b m) < length (digits_of b n) → m < n
fewer_lower b m n two fewer =
    elim (cases_lt m n) [
      | inl lower ↦ lower
      | inr no_lower ↦
          let below : m < b ^ length (digits_of b m) = ap_lt (number_digits_of b m two) (number_lt b (digits_of b m) (all_below_base_digits_of b m two)) in
          let short = length-digits_of-le b (length (digits_of b m)) n two (omega arith) in
          absurd (omega arith)
    ]
  where
    ap_lt : {i j k : ℕ} → i ≡ j → i < k → j < k
    ap_lt e l = omega arith

-- The order of numbers is that of their counts of digits, and then of the digits.
pub digits_cmp : (b m n : ℕ) → 2 ≤ b
    → ordering_then (nat_cmp (length (digits_of b m)) (length (digits_of b n))) (byte_order (digits_of b m) (digits_of b n)) ≡ nat_cmp m n
digits_cmp b m n two =
    by_ranks (nat_cmp (length (digits_of b m)) (length (digits_of b n))) (ranks (length (digits_of b m)) (length (digits_of b n)))
  where
    by_ranks : (r : Ordering)
        → MatchOrdering r (length (digits_of b m) < length (digits_of b n)) (length (digits_of b m) ≡ length (digits_of b n)) (length (digits_of b n) < length (digits_of b m))
        → ordering_then r (byte_order (digits_of b m) (digits_of b n)) ≡ nat_cmp m n
    by_ranks Less h = nat_cmp_is m n Less (fewer_lower b m n two h)
    by_ranks Equal h =
        sym (after_cmp b 0 0 (digits_of b m) (digits_of b n) (all_below_base_digits_of b m two) (all_below_base_digits_of b n two) h)
        ∙ ap (λ i. nat_cmp i (number_from_digits b (digits_of b n))) (number_digits_of b m two)
        ∙ ap (nat_cmp m) (number_digits_of b n two)
    by_ranks Greater h = nat_cmp_is m n Greater (fewer_lower b n m two h)

-- of two lists of one length, what follows them decides only if they are the same
same_length : (ds es x y : List ℕ) → length ds ≡ length es → byte_order (ds ++ x) (es ++ y) ≡ ordering_then (byte_order ds es) (byte_order x y)
same_length [] [] x y same = refl
same_length [] (e ∷ es) x y same = absurd (omega arith)
same_length (d ∷ ds) [] x y same = absurd (omega arith)
same_length (d ∷ ds) (e ∷ es) x y same =
    ap (ordering_then (nat_cmp d e)) (same_length ds es x y (omega arith))
    ∙ sym (ordering_then_assoc (nat_cmp d e) (byte_order ds es) (byte_order x y))

-- Where the lengths are compared first, so it is for any two lists.
pub counted : (ds es x y : List ℕ)
    → ordering_then (nat_cmp (length ds) (length es)) (byte_order (ds ++ x) (es ++ y))
    ≡ ordering_then (ordering_then (nat_cmp (length ds) (length es)) (byte_order ds es)) (byte_order x y)
counted ds es x y = by_order (nat_cmp (length ds) (length es)) (nat_cmp-IsAntisymmetric (length ds) (length es))
  where
    by_order : (r : Ordering) → (r ≡ Equal → length ds ≡ length es)
        → ordering_then r (byte_order (ds ++ x) (es ++ y)) ≡ ordering_then (ordering_then r (byte_order ds es)) (byte_order x y)
    by_order Less same = refl
    by_order Equal same = same_length ds es x y (same refl)
    by_order Greater same = refl
