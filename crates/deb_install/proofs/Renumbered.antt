-- Lists in another order: where each element is, and what a set has of both.
use Rattle.std.proofs.Common.{◌≡◌, ℕ, zero, suc, ◌+◌, ◌<◌, Bool, true, false, cond, List, [], ◌∷◌, length, map, refl, sym, ap, ◌∙◌, subst, arith}
use Rattle.std.specs.List.{slice_get}
use Rattle.std.specs.List.Sorted.{IsPermutation}
use Rattle.std.proofs.lemmas.List.Sorted.{IsPermutation-cons, IsPermutation-middle, IsPermutation-refl, IsPermutation-trans}
use Rattle.deb_health.proofs.Rearranged.{by_exchanges}
use Rattle.deb_install.specs.Members.{members_from}
use Rattle.deb_install.proofs.Sets.{members-same, members-shifted}

-- indices of lists with one more element in front, and with the first two exchanged
abbrev under-at : (ℕ → ℕ) → ℕ → ℕ
under-at f zero = zero
under-at f (suc i) = suc (f i)

abbrev flip-at : ℕ → ℕ
flip-at zero = suc zero
flip-at (suc zero) = zero
flip-at (suc (suc i)) = suc (suc i)

under-back : (to from : ℕ → ℕ) (n : ℕ) → ((i : ℕ) → i < n → from (to i) ≡ i) → (i : ℕ) → i < suc n → under-at from (under-at to i) ≡ i
under-back to from n back zero less = refl
under-back to from n back (suc i) less = ap suc (back i (omega (arith, less)))

under-within : (to : ℕ → ℕ) (n m : ℕ) → ((i : ℕ) → i < n → to i < m) → (i : ℕ) → i < suc n → under-at to i < suc m
under-within to n m within zero less = omega arith
under-within to n m within (suc i) less =
    let more = within i (omega (arith, less)) in
    omega (arith, more)

flip-back : (i : ℕ) → flip-at (flip-at i) ≡ i
flip-back zero = refl
flip-back (suc zero) = refl
flip-back (suc (suc i)) = refl

flip-within : (n i : ℕ) → i < suc (suc n) → flip-at i < suc (suc n)
flip-within n zero less = omega arith
flip-within n (suc zero) less = omega arith
flip-within n (suc (suc i)) less = less

module _ {X : Type 0} where
  -- Each element of the first list is at an index of the second one, and a set has the same of both.
  pub record Renumbers (xs ys : List X) : Type 0 where
    pub to : ℕ → ℕ
    pub from : ℕ → ℕ
    pub back : (i : ℕ) → i < length xs → from (to i) ≡ i
    pub within : (i : ℕ) → i < length xs → to i < length ys
    pub same : (i : ℕ) → i < length xs → slice_get ys (to i) ≡ slice_get xs i
    pub moved : (set : ℕ → Bool) → IsPermutation (members_from set 0 xs) (members_from (λ j. set (from j)) 0 ys)

  unmoved : (xs : List X) → Renumbers xs xs
  unmoved xs = record {
    to = λ i. i;
    from = λ i. i;
    back = λ i less. refl;
    within = λ i less. less;
    same = λ i less. refl;
    moved = λ set. IsPermutation-refl (members_from set 0 xs);
  }

  along : (us vs xs ys : List X) → xs ≡ us → ys ≡ vs → IsPermutation us vs → IsPermutation xs ys
  along us vs xs ys first second is = subst (λ l. IsPermutation xs l) (sym second) (subst (λ l. IsPermutation l vs) (sym first) is)

  under-cond : (v : Bool) (x : X) (us vs : List X) → IsPermutation us vs → IsPermutation (cond v (x ∷ us) us) (cond v (x ∷ vs) vs)
  under-cond true x us vs is = IsPermutation-cons x us vs is
  under-cond false x us vs is = is

  flipped-cond : (v u : Bool) (x y : X) (xs : List X) → IsPermutation (cond v (x ∷ cond u (y ∷ xs) xs) (cond u (y ∷ xs) xs)) (cond u (y ∷ cond v (x ∷ xs) xs) (cond v (x ∷ xs) xs))
  flipped-cond true true x y xs = IsPermutation-middle (x ∷ []) y xs
  flipped-cond true false x y xs = IsPermutation-refl (x ∷ xs)
  flipped-cond false true x y xs = IsPermutation-refl (y ∷ xs)
  flipped-cond false false x y xs = IsPermutation-refl xs

  under-same : (to : ℕ → ℕ) (x : X) (xs ys : List X) → ((i : ℕ) → i < length xs → slice_get ys (to i) ≡ slice_get xs i) → (i : ℕ) → i < suc (length xs) → slice_get (x ∷ ys) (under-at to i) ≡ slice_get (x ∷ xs) i
  under-same to x xs ys same zero less = refl
  under-same to x xs ys same (suc i) less = same i (omega (arith, less))

  flip-same : (x y : X) (xs : List X) (i : ℕ) → slice_get (y ∷ x ∷ xs) (flip-at i) ≡ slice_get (x ∷ y ∷ xs) i
  flip-same x y xs zero = refl
  flip-same x y xs (suc zero) = refl
  flip-same x y xs (suc (suc i)) = refl

  under : (x : X) (xs ys : List X) → Renumbers xs ys → Renumbers (x ∷ xs) (x ∷ ys)
  under x xs ys r = record {
    to = under-at r.to;
    from = under-at r.from;
    back = under-back r.to r.from (length xs) r.back;
    within = under-within r.to (length xs) (length ys) r.within;
    same = under-same r.to x xs ys r.same;
    moved = λ set.
        let later : ℕ → Bool = λ i. set (suc i) in
        let before = members-shifted set later 1 0 xs (λ i less.
        let e : 1 + i ≡ suc (0 + i) = omega arith in
        ap set e) in
        let after = members-shifted (λ j. set (under-at r.from j)) (λ j. later (r.from j)) 1 0 ys (λ i less.
        let e : 1 + i ≡ suc (0 + i) = omega arith in
        ap (λ k. set (under-at r.from k)) e) in
        under-cond-along (set 0) x (members_from later 0 xs) (members_from (λ j. later (r.from j)) 0 ys) (members_from set 1 xs) (members_from (λ j. set (under-at r.from j)) 1 ys) before after (r.moved later);
  }
    where
      under-cond-along : (v : Bool) (x : X) (us vs xs ys : List X) → xs ≡ us → ys ≡ vs → IsPermutation us vs → IsPermutation (cond v (x ∷ xs) xs) (cond v (x ∷ ys) ys)
      under-cond-along v x us vs xs ys first second is = under-cond v x xs ys (along us vs xs ys first second is)

  flipped : (x y : X) (xs : List X) → Renumbers (x ∷ y ∷ xs) (y ∷ x ∷ xs)
  flipped x y xs = record {
    to = flip-at;
    from = flip-at;
    back = λ i less. flip-back i;
    within = flip-within (length xs);
    same = λ i less. flip-same x y xs i;
    moved = λ set.
        let rest = members-same (λ j. set (flip-at j)) set 2 xs (λ i less.
        let e : 2 + i ≡ suc (suc i) = omega arith in
        ap (λ k. set (flip-at k)) e ∙ sym (ap set e)) in
        subst (λ l. IsPermutation (members_from set 0 (x ∷ y ∷ xs)) (cond (set 1) (y ∷ cond (set 0) (x ∷ l) l) (cond (set 0) (x ∷ l) l))) (sym rest)
        (flipped-cond (set 0) (set 1) x y (members_from set 2 xs));
  }

  joined : (xs ys zs : List X) → Renumbers xs ys → Renumbers ys zs → Renumbers xs zs
  joined xs ys zs first second = record {
    to = λ i. second.to (first.to i);
    from = λ i. first.from (second.from i);
    back = λ i less. ap first.from (second.back (first.to i) (first.within i less)) ∙ first.back i less;
    within = λ i less. second.within (first.to i) (first.within i less);
    same = λ i less. second.same (first.to i) (first.within i less) ∙ first.same i less;
    moved = λ set. IsPermutation-trans _ _ _ (first.moved set) (second.moved (λ i. set (first.from i)));
  }

  pub renumbers : (xs ys : List X) → IsPermutation xs ys → Renumbers xs ys
  renumbers = by_exchanges Renumbers unmoved under flipped joined

map-cond : {X Y : Type 0} (f : X → Y) (v : Bool) (x : X) (xs : List X) → cond v (f x ∷ map f xs) (map f xs) ≡ map f (cond v (x ∷ xs) xs)
map-cond f true x xs = refl
map-cond f false x xs = refl

pub members-map : {X Y : Type 0} (f : X → Y) (set : ℕ → Bool) (n : ℕ) (xs : List X) → members_from set n (map f xs) ≡ map f (members_from set n xs)
members-map f set n [] = refl
members-map f set n (x ∷ xs) =
    ap (λ l. cond (set n) (f x ∷ l) l) (members-map f set (n + 1) xs) ∙ map-cond f (set n) x (members_from set (n + 1) xs)
