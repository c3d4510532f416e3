-- A binary search among ascending numbers.
use Rattle.std.proofs.Common.{◌≡◌, ℕ, ◌<◌, ◌≤◌, true, eqb, is_ok, List, length, Result, Ok, Err, sym, ap, ◌∙◌, inl, inr, arith}
use Rattle.std.specs.List.{list_any}
use Rattle.std.specs.List.Sorted.{IsBinarySearchResult, IsNonDecreasingBy, IsSearchInRange, IsSorted}
use Rattle.std.specs.Ordering.{nat_cmp, ordering_index}
use Rattle.std.specs.declared.cmp.Ordering.{Ordering}
use Rattle.std.specs.declared.cmp.Ordering.TheVariants.{Less, Equal, Greater}
use Rattle.std.proofs.lemmas.Bool.{cases_Bool, cases_lt, eqb-true}
use Rattle.std.proofs.lemmas.List.Folds.{Any-from_list_any, list_any_at}
use Rattle.std.proofs.lemmas.List.Sorted.{IsNonDecreasingBy-from_sort}

below : (a n : ℕ) → a < n → nat_cmp a n ≡ Less
below a n h = grind (arith, h)

beyond : (a n : ℕ) → n < a → nat_cmp a n ≡ Greater
beyond a n h = grind (arith, h)

same : (a n : ℕ) → nat_cmp a n ≡ Equal → eqb n a ≡ true
same a n h = grind (arith, h)

itself : (n : ℕ) → nat_cmp n n ≡ Equal
itself n = grind arith

index-least : (o : Ordering) → 0 ≤ ordering_index o
index-least o = omega arith

-- the greater a number is, the later its order with another
index-grows : (a b n : ℕ) → a ≤ b → ordering_index (nat_cmp a n) ≤ ordering_index (nat_cmp b n)
index-grows a b n upto =
    elim (cases_lt a n) [
      | inl less ↦ rw (below a n less) (index-least (nat_cmp b n))
      | inr not_less ↦
          elim (cases_lt n b) [
            | inl more ↦ rw (beyond b n more) (most (nat_cmp a n))
            | inr not_more ↦ let is : a ≡ b = omega (arith, upto, not_less, not_more) in rw is (omega arith)
          ]
    ]
  where
    most : (o : Ordering) → ordering_index o ≤ 2
    most Less = omega arith
    most Equal = omega arith
    most Greater = omega arith

grows : (n : ℕ) (xs : List ℕ) → IsSorted nat_cmp xs → IsNonDecreasingBy (λ y. ordering_index (nat_cmp y n)) xs
grows n xs sorted = λ i j d le lt. index-grows _ _ n (IsNonDecreasingBy-from_sort (λ x. x) xs sorted i j d le lt)

less-apart : Less ≡ Equal → ⊥
less-apart e = cc

greater-apart : Greater ≡ Equal → ⊥
greater-apart e = cc

pub found_among : (n : ℕ) (xs : List ℕ) (r : Result ℕ ℕ) → IsSorted nat_cmp xs → IsSearchInRange r (length xs) → IsBinarySearchResult (λ y. nat_cmp y n) xs r → is_ok r ≡ list_any (eqb n) xs
found_among n xs (Ok i) sorted range found = sym (list_any_at (eqb n) xs i 0 range (same _ n (found 0)))
found_among n xs (Err i) sorted range found =
    elim (cases_Bool (list_any (eqb n) xs)) [
      | inr none ↦ sym none
      | inl some ↦
          let at = Any-from_list_any (eqb n) xs some in
          let split = found (grows n xs sorted) in
          let is : nat_cmp at.1 n ≡ Equal = ap (λ k. nat_cmp k n) (sym (eqb-true n at.1 at.4)) ∙ itself n in
          elim (cases_lt at.0 i) [
            | inl front ↦ absurd (less-apart (sym (split.0 at.0 at.1 (omega arith) front) ∙ ap (λ k. nat_cmp k n) at.3 ∙ is))
            | inr back ↦ absurd (greater-apart (sym (split.1 at.0 at.1 back at.2) ∙ ap (λ k. nat_cmp k n) at.3 ∙ is))
          ]
    ]
