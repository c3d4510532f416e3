-- Lists in another order.
use Rattle.std.proofs.Common.{◌≡◌, ℕ, zero, suc, ◌<◌, Bool, true, false, cond, ◌&&◌, List, [], ◌∷◌, ◌++◌, length, get_or, set, refl, ap, ◌∙◌, arith}
use Rattle.std.specs.List.{filter, list_all, swap}
use Rattle.std.specs.List.Sorted.{IsPermutation}
use Rattle.std.proofs.lemmas.List.Sorted.{IsPermutation-cons, IsPermutation-keeps, IsPermutation-middle, IsPermutation-refl, IsPermutation-trans}

-- What holds of lists in another order: it holds of equal ones, stays with one more element in
-- front of both, holds if the first two elements are exchanged, and of two steps if of each.
module _ {X : Type 0} (R : List X → List X → Type 0) (same : (xs : List X) → R xs xs)
    (under : (x : X) (xs ys : List X) → R xs ys → R (x ∷ xs) (x ∷ ys))
    (flipped : (x y : X) (xs : List X) → R (x ∷ y ∷ xs) (y ∷ x ∷ xs))
    (joined : (xs ys zs : List X) → R xs ys → R ys zs → R xs zs) where
  in-front : (x : X) (xs : List X) (j : ℕ) (d : X) → j < length xs → R (x ∷ xs) (get_or xs j d ∷ set xs j x)
  in-front x [] j d less = absurd (omega (arith, less))
  in-front x (y ∷ xs) zero d less = flipped x y xs
  in-front x (y ∷ xs) (suc j) d less =
      joined _ _ _ (flipped x y xs)
      (joined _ _ _ (under y _ _ (in-front x xs j d (omega (arith, less)))) (flipped y (get_or xs j d) (set xs j x)))

  exchanged : (xs : List X) (i j : ℕ) (d : X) → i < length xs → j < length xs → R xs (set (set xs i (get_or xs j d)) j (get_or xs i d))
  exchanged [] i j d first second = absurd (omega (arith, first))
  exchanged (x ∷ xs) zero zero d first second = same (x ∷ xs)
  exchanged (x ∷ xs) zero (suc j) d first second = in-front x xs j d (omega (arith, second))
  exchanged (x ∷ xs) (suc i) zero d first second = in-front x xs i d (omega (arith, first))
  exchanged (x ∷ xs) (suc i) (suc j) d first second = under x _ _ (exchanged xs i j d (omega (arith, first)) (omega (arith, second)))

  swapped : (xs : List X) (i j : ℕ) → i < length xs → j < length xs → R xs (swap xs i j)
  swapped [] i j first second = absurd (omega (arith, first))
  swapped (x ∷ xs) i j first second = exchanged (x ∷ xs) i j x first second

  pub by_exchanges : (xs ys : List X) → IsPermutation xs ys → R xs ys
  by_exchanges xs ys moved = IsPermutation-keeps xs (R xs) (same xs) (λ l i j first second so_far. joined xs l (swap l i j) so_far (swapped l i j first second)) ys moved

module _ {X : Type 0} (test : X → Bool) where
  under-cond : (v : Bool) (x : X) (us vs : List X) → IsPermutation us vs → IsPermutation (cond v (x ∷ us) us) (cond v (x ∷ vs) vs)
  under-cond true x us vs moved = IsPermutation-cons x us vs moved
  under-cond false x us vs moved = moved

  flipped-cond : (v u : Bool) (x y : X) (xs : List X) → IsPermutation (cond v (x ∷ cond u (y ∷ xs) xs) (cond u (y ∷ xs) xs)) (cond u (y ∷ cond v (x ∷ xs) xs) (cond v (x ∷ xs) xs))
  flipped-cond true true x y xs = IsPermutation-middle (x ∷ []) y xs
  flipped-cond true false x y xs = IsPermutation-refl (x ∷ xs)
  flipped-cond false true x y xs = IsPermutation-refl (y ∷ xs)
  flipped-cond false false x y xs = IsPermutation-refl xs

  -- those that pass a test are in another order too
  pub filter-permutation : (xs ys : List X) → IsPermutation xs ys → IsPermutation (filter test xs) (filter test ys)
  filter-permutation = by_exchanges (λ xs ys. IsPermutation (filter test xs) (filter test ys))
      (λ xs. IsPermutation-refl (filter test xs))
      (λ x xs ys moved. under-cond (test x) x (filter test xs) (filter test ys) moved)
      (λ x y xs. flipped-cond (test x) (test y) x y (filter test xs))
      (λ xs ys zs. IsPermutation-trans (filter test xs) (filter test ys) (filter test zs))

  both-flipped : (v u rest : Bool) → (v && (u && rest)) ≡ (u && (v && rest))
  both-flipped true u rest = refl
  both-flipped false true rest = refl
  both-flipped false false rest = refl

  -- and all pass if all did
  pub list_all-permutation : (xs ys : List X) → IsPermutation xs ys → list_all test xs ≡ list_all test ys
  list_all-permutation = by_exchanges (λ xs ys. list_all test xs ≡ list_all test ys)
      (λ xs. refl)
      (λ x xs ys is. ap (λ b. test x && b) is)
      (λ x y xs. both-flipped (test x) (test y) (list_all test xs))
      (λ xs ys zs first second. first ∙ second)

  -- without one that doesn't pass
  pub filter-skipping : (before after : List X) (x : X) → test x ≡ false → filter test (before ++ x ∷ after) ≡ filter test (before ++ after)
  filter-skipping [] after x is = ap (λ v. cond v (x ∷ filter test after) (filter test after)) is
  filter-skipping (y ∷ before) after x is = ap (λ l. cond (test y) (y ∷ l) l) (filter-skipping before after x is)
