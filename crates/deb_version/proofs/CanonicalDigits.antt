-- The decimal digits of a number, and the run of digits without its leading zeros.
use Rattle.deb_version.proofs.Common.{◌≡◌, ◌≢◌, ℕ, zero, suc, ◌+◌, ◌-◌, ◌*◌, ◌/◌, ◌%◌, ◌^◌, ◌<◌, ◌≤◌, List, [], ◌∷◌, ◌++◌, map, length, refl, sym, ap, ◌∙◌, subst, arith, IsTrue, rules, tests, is_ascii_digit, append-nil, length-map, value_after, value_of, IsDigits, digits_of, cons_not_nil}
use Rattle.std.specs.Int.Digits.{digits_of as digits_in_base, number_from_digits, number_from_digits_after, AllBelowBase}
use Rattle.std.proofs.lemmas.Int.Digits.{number_lt, digits_of_step, length-digits_of-le, all_below_base_digits_of, number_digits_of, number_after_ge}
use Rattle.std.proofs.lemmas.List.{append_assoc}

-- the digits of numbers below ten
abbrev written : List ℕ → List ℕ
written ds = map (λ digit. 48 + digit) ds

value_after-written : (n : ℕ) (ds : List ℕ) → value_after n (written ds) ≡ number_from_digits_after 10 n ds
value_after-written n [] = refl
value_after-written n (d ∷ ds) =
    let e : 10 * n + ((48 + d) - 48) ≡ n * 10 + d = omega arith in
    value_after-written (10 * n + ((48 + d) - 48)) ds ∙ ap (λ k. number_from_digits_after 10 k ds) e

-- The digits of a number have its value.
pub value_of-digits_of : (n : ℕ) → value_of (digits_of n) ≡ n
value_of-digits_of zero = refl
value_of-digits_of (suc n) = value_after-written 0 (digits_in_base 10 (suc n)) ∙ number_digits_of 10 (suc n) (omega arith)

is_digit : (d : ℕ) → d < 10 → IsTrue (is_ascii_digit (48 + d))
is_digit d below = search (rules, tests)

IsDigits-written : (ds : List ℕ) → AllBelowBase 10 ds → IsDigits (written ds)
IsDigits-written [] below = tt
IsDigits-written (d ∷ ds) below = (is_digit d below.0, IsDigits-written ds below.1)

pub IsDigits-digits_of : (n : ℕ) → IsDigits (digits_of n)
IsDigits-digits_of zero = (refl, tt)
IsDigits-digits_of (suc n) = IsDigits-written (digits_in_base 10 (suc n)) (all_below_base_digits_of 10 (suc n) (omega arith))

pub digits_of-some : (n : ℕ) → digits_of n ≢ []
digits_of-some zero e = cons_not_nil 48 [] e
digits_of-some (suc n) e = omega (arith, value_of-digits_of (suc n), ap value_of e)

-- the numbers that digits write
abbrev read : List ℕ → List ℕ
read run = map (λ b. b - 48) run

below_ten : (b : ℕ) → IsTrue (is_ascii_digit b) → (b - 48 < 10) × (48 + (b - 48) ≡ b)
below_ten b d = search (rules, tests)

AllBelowBase-read : (run : List ℕ) → IsDigits run → AllBelowBase 10 (read run)
AllBelowBase-read [] digits = tt
AllBelowBase-read (b ∷ run) digits = ((below_ten b digits.0).0, AllBelowBase-read run digits.1)

written-read : (run : List ℕ) → IsDigits run → written (read run) ≡ run
written-read [] digits = refl
written-read (b ∷ run) digits =
    let first = (below_ten b digits.0).1 in
    let others = written-read run digits.1 in
    cc

value_of-read : (run : List ℕ) → IsDigits run → value_of run ≡ number_from_digits 10 (read run)
value_of-read run digits = ap value_of (sym (written-read run digits)) ∙ value_after-written 0 (read run)

length-digits_of : (n k : ℕ) → n < 10 ^ k → 0 < k → length (digits_of n) ≤ k
length-digits_of zero k below some = some
length-digits_of (suc n) k below some =
    let e = length-map (digits_in_base 10 (suc n)) (λ digit. 48 + digit) in
    let l = length-digits_of-le 10 k (suc n) (omega arith) below in
    omega (arith, e, l)

-- The digits of a run's value are no more than the run's, if it has one.
pub length-digits_of-value_of : (run : List ℕ) → IsDigits run → run ≢ [] → length (digits_of (value_of run)) ≤ length run
length-digits_of-value_of [] digits some = absurd (some refl)
length-digits_of-value_of (b ∷ run) digits some =
    let below = number_lt 10 (read (b ∷ run)) (AllBelowBase-read (b ∷ run) digits) in
    let same = value_of-read (b ∷ run) digits in
    let len = length-map (b ∷ run) (λ c. c - 48) in
    length-digits_of (value_of (b ∷ run)) (length (b ∷ run)) (subst (λ n. n < 10 ^ length (b ∷ run)) (sym same) (subst (λ k. number_from_digits 10 (read (b ∷ run)) < 10 ^ k) len below)) (omega arith)

digits_in_base_push : (n d : ℕ) → 0 < n → d < 10 → digits_in_base 10 (n * 10 + d) ≡ digits_in_base 10 n ++ d ∷ []
digits_in_base_push n d some below =
    let quotient : (n * 10 + d) / 10 ≡ n = omega arith in
    let remainder : (n * 10 + d) % 10 ≡ d = omega arith in
    digits_of_step 10 (n * 10 + d) (omega arith) (omega arith) ∙ ap (λ q. digits_in_base 10 q ++ ((n * 10 + d) % 10 ∷ [])) quotient
    ∙ ap (λ r. digits_in_base 10 n ++ (r ∷ [])) remainder

digits_in_base_one : (d : ℕ) → 0 < d → d < 10 → digits_in_base 10 d ≡ d ∷ []
digits_in_base_one d some below =
    let quotient : d / 10 ≡ 0 = omega arith in
    let remainder : d % 10 ≡ d = omega arith in
    digits_of_step 10 d (omega arith) some ∙ ap (λ q. digits_in_base 10 q ++ (d % 10 ∷ [])) quotient ∙ ap (λ r. r ∷ []) remainder

digits_in_base-after : (n : ℕ) (ds : List ℕ) → 0 < n → AllBelowBase 10 ds → digits_in_base 10 (number_from_digits_after 10 n ds) ≡ digits_in_base 10 n ++ ds
digits_in_base-after n [] some below = sym (append-nil (digits_in_base 10 n))
digits_in_base-after n (d ∷ ds) some below =
    digits_in_base-after (n * 10 + d) ds (omega arith) below.1 ∙ ap (λ l. l ++ ds) (digits_in_base_push n d some below.0)
    ∙ append_assoc (digits_in_base 10 n) (d ∷ []) ds

pub digits_of-positive : (n : ℕ) → 0 < n → digits_of n ≡ written (digits_in_base 10 n)
digits_of-positive zero some = absurd (omega arith)
digits_of-positive (suc n) some = refl

-- A run that doesn't begin with a zero is the digits of its value.
pub digits_of-value_of : (b : ℕ) (run : List ℕ) → IsDigits (b ∷ run) → b ≢ 48 → digits_of (value_of (b ∷ run)) ≡ b ∷ run
digits_of-value_of b run digits other =
    let value = value_of-read (b ∷ run) digits in
    let below = AllBelowBase-read (b ∷ run) digits in
    let first = below_ten b digits.0 in
    let some : 0 < 0 * 10 + (b - 48) = omega (arith, first.1) in
    let small : 0 * 10 + (b - 48) < 10 = omega (arith, first.0) in
    let same : 48 + (0 * 10 + (b - 48)) ≡ b = omega (arith, first.1) in
    digits_of-positive (value_of (b ∷ run)) (omega (arith, value, number_after_ge 10 (0 * 10 + (b - 48)) (read run) (omega arith)))
    ∙ ap (λ n. written (digits_in_base 10 n)) value
    ∙ ap written (digits_in_base-after (0 * 10 + (b - 48)) (read run) some below.1)
    ∙ ap (λ l. written (l ++ read run)) (digits_in_base_one (0 * 10 + (b - 48)) some small)
    ∙ ap (λ d. d ∷ written (read run)) same
    ∙ ap (λ l. b ∷ l) (written-read run digits.1)
