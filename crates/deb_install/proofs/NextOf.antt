-- The next of two lists whose elements are related.
use Rattle.std.proofs.Common.{◌≡◌, ℕ, zero, suc, ◌+◌, ◌<◌, ◌≤◌, List, [], ◌∷◌, ◌++◌, length, drop, get_or, take, refl, sym, ap, ◌∙◌, subst, arith}
use Rattle.std.proofs.lemmas.List.{take_all}
use Rattle.deb_control.specs.Pairs.{Pairwise}
use Rattle.deb_control.proofs.GivenValues.{pairwise-length}

pub record NextOf {A B : Type 0} (R : A → B → Type 0) (xs : List A) (n : ℕ) (y : B) : Type 0 where
  pub x : A
  pub related : R x y
  pub taken : take (n + 1) xs ≡ take n xs ++ x ∷ []
  pub left : drop n xs ≡ x ∷ drop (n + 1) xs

pub next-of : {A B : Type 0} (R : A → B → Type 0) (xs : List A) (ys : List B) (n : ℕ) (y : B) → n < length ys → y ≡ get_or ys n y → Pairwise R xs ys → NextOf R xs n y
next-of R [] [] n y within is are = absurd (omega (arith, within))
next-of R [] (b ∷ ys) n y within is are = absurd are
next-of R (a ∷ xs) [] n y within is are = absurd are
next-of R (a ∷ xs) (b ∷ ys) zero y within is are = record { x = a; related = subst (R a) (sym is) are.0; taken = refl; left = refl }
next-of R (a ∷ xs) (b ∷ ys) (suc n) y within is are =
    let later = next-of R xs ys n y (omega (arith, within)) is are.1 in
    let more : suc n + 1 ≡ suc (n + 1) = omega arith in
    record {
      x = later.x;
      related = later.related;
      taken = ap (λ m. take m (a ∷ xs)) more ∙ ap (λ l. a ∷ l) later.taken;
      left = later.left ∙ ap (λ m. later.x ∷ drop m (a ∷ xs)) (sym more);
    }

pub all-of : {A B : Type 0} (R : A → B → Type 0) (xs : List A) (ys : List B) (n : ℕ) → length ys ≤ n → Pairwise R xs ys → take n xs ≡ xs
all-of R xs ys n past are =
    let long = pairwise-length R xs ys are in
    take_all n xs (omega (arith, past, long))
