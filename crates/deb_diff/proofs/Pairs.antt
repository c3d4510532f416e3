-- Lists of which the elements of another one are taken away by a key.
use Rattle.std.proofs.Common.{◌≡◌, ℕ, ◌+◌, ◌-◌, ◌≤◌, Bool, true, false, cond, List, [], ◌∷◌, length, map, Some, is_some, refl, sym, ap, ◌∙◌, subst, arith, bytes_eq}
use Rattle.std.specs.List.{AllByRecursion, sum_by}
use Rattle.std.specs.Prelude.{⊤}
use Rattle.std.proofs.lemmas.List.{length-map, map-id}
use Rattle.std.specs.List.Sorted.{IsPermutation}
use Rattle.std.specs.Cmp.{both_ways}
use Rattle.std.proofs.lemmas.Bool.{false≢true}
use Rattle.std.proofs.lemmas.List.Sums.{sum_by-cons}
use Rattle.std.proofs.lemmas.List.Sorted.{IsPermutation-refl, IsPermutation-cons, IsPermutation-trans, IsPermutation-middle, sum_by-IsPermutation, length_permutation}
use Rattle.std.proofs.lemmas.Slice.Eq.{bytes_eq-Decides}
use Rattle.deb_diff.specs.Pairing.{earliest, all_but, without, without_keys}

pub bytes_eq-sym : (a b : List ℕ) → bytes_eq a b ≡ bytes_eq b a
bytes_eq-sym a b = both_ways (bytes_eq a b) (bytes_eq b a) (λ e. (bytes_eq-Decides b a).1 (sym ((bytes_eq-Decides a b).0 e))) (λ e. (bytes_eq-Decides a b).1 (sym ((bytes_eq-Decides b a).0 e)))

bytes_eq-same : (a : List ℕ) → bytes_eq a a ≡ true
bytes_eq-same a = (bytes_eq-Decides a a).1 refl

-- Two lists of which each has a key of its own.
module _ {X Y : Type 0} (own : X → List ℕ) (key : Y → List ℕ) where
  -- what finds none in a list from which the earliest are taken away one after another
  abbrev pub unpaired_by : List X → List Y → List X
  unpaired_by [] ys = []
  unpaired_by (x ∷ xs) ys = cond (is_some (earliest key (own x) ys)) (unpaired_by xs (all_but key (own x) ys)) (x ∷ unpaired_by xs (all_but key (own x) ys))

  none_without : (ks : List (List ℕ)) → without_keys own [] ks ≡ []
  none_without [] = refl
  none_without (k ∷ ks) = none_without ks

  -- one element more
  without_keys-cons : (x : X) (xs : List X) (ys : List Y) → without_keys own (x ∷ xs) (map key ys) ≡ cond (is_some (earliest key (own x) ys)) (without_keys own xs (map key (all_but key (own x) ys))) (x ∷ without_keys own xs (map key ys))
  without_keys-cons x xs [] = refl
  without_keys-cons x xs (y ∷ ys) =
      go (bytes_eq (own x) (key y)) (bytes_eq (key y) (own x)) (bytes_eq-sym (own x) (key y)) (without_keys-cons x (all_but own (key y) xs) ys)
    where
      go : (b c : Bool) → b ≡ c → without_keys own (x ∷ all_but own (key y) xs) (map key ys) ≡ cond (is_some (earliest key (own x) ys)) (without_keys own (all_but own (key y) xs) (map key (all_but key (own x) ys))) (x ∷ without_keys own (all_but own (key y) xs) (map key ys))
          → without_keys own (cond b xs (x ∷ all_but own (key y) xs)) (map key ys) ≡ cond (is_some (cond c (Some y) (earliest key (own x) ys))) (without_keys own xs (map key (cond c ys (y ∷ all_but key (own x) ys)))) (x ∷ without_keys own (all_but own (key y) xs) (map key ys))
      go true true e h = refl
      go false false e h = h
      go true false e h = cc e
      go false true e h = cc e

  -- without the key nothing is taken away
  none_found : (wanted : List ℕ) (ys : List Y) → is_some (earliest key wanted ys) ≡ false → all_but key wanted ys ≡ ys
  none_found wanted [] e = refl
  none_found wanted (y ∷ ys) e = go (bytes_eq (key y) wanted) e (none_found wanted ys)
    where
      go : (b : Bool) → is_some (cond b (Some y) (earliest key wanted ys)) ≡ false → (is_some (earliest key wanted ys) ≡ false → all_but key wanted ys ≡ ys) → cond b ys (y ∷ all_but key wanted ys) ≡ y ∷ ys
      go true e h = cc e
      go false e h = ap (λ l. y ∷ l) (h e)

  -- they are those that are left of their list without the keys of the other one
  pub unpaired_by-left : (xs : List X) (ys : List Y) → unpaired_by xs ys ≡ without_keys own xs (map key ys)
  unpaired_by-left [] ys = sym (none_without (map key ys))
  unpaired_by-left (x ∷ xs) ys =
      go (is_some (earliest key (own x) ys)) refl (unpaired_by-left xs (all_but key (own x) ys)) ∙ sym (without_keys-cons x xs ys)
    where
      go : (b : Bool) → is_some (earliest key (own x) ys) ≡ b → unpaired_by xs (all_but key (own x) ys) ≡ without_keys own xs (map key (all_but key (own x) ys)) → cond b (unpaired_by xs (all_but key (own x) ys)) (x ∷ unpaired_by xs (all_but key (own x) ys)) ≡ cond b (without_keys own xs (map key (all_but key (own x) ys))) (x ∷ without_keys own xs (map key ys))
      go true e h = h
      go false e h = ap (λ l. x ∷ l) (h ∙ ap (λ l. without_keys own xs (map key l)) (none_found (own x) ys e))

module _ {X : Type 0} (key : X → List ℕ) where
  -- whether some element has the key
  abbrev pub has : List ℕ → List X → Bool
  has wanted xs = is_some (earliest key wanted xs)

  -- the same where both lists have one key
  abbrev pub unpaired : List X → List X → List X
  unpaired xs ys = unpaired_by key key xs ys

  -- without the key nothing is taken away
  pub all_but-none : (wanted : List ℕ) (xs : List X) → has wanted xs ≡ false → all_but key wanted xs ≡ xs
  all_but-none = none_found key key

  pub without-nil : (ys : List X) → without key [] ys ≡ []
  without-nil [] = refl
  without-nil (y ∷ ys) = without-nil ys

  keys-without : (xs ys : List X) → without_keys key xs (map key ys) ≡ without key xs ys
  keys-without xs [] = refl
  keys-without xs (y ∷ ys) = keys-without (all_but key (key y) xs) ys

  pub unpaired-left : (xs ys : List X) → unpaired xs ys ≡ without key xs ys
  unpaired-left xs ys = unpaired_by-left key key xs ys ∙ keys-without xs ys

  all_but-length : (wanted : List ℕ) (xs : List X) → length xs ≤ 1 + length (all_but key wanted xs)
  all_but-length wanted [] = omega arith
  all_but-length wanted (x ∷ xs) = go (bytes_eq (key x) wanted) (all_but-length wanted xs)
    where
      go : (b : Bool) → length xs ≤ 1 + length (all_but key wanted xs) → length (x ∷ xs) ≤ 1 + length (cond b xs (x ∷ all_but key wanted xs))
      go true h = omega arith
      go false h = omega (arith, h)

  without-length : (xs ys : List X) → length xs ≤ length ys + length (without key xs ys)
  without-length xs [] = omega arith
  without-length xs (y ∷ ys) = omega (arith, all_but-length (key y) xs, without-length (all_but key (key y) xs) ys)

  -- all but one have what all have
  all_but-all : (P : X → Type 0) (wanted : List ℕ) (xs : List X) → AllByRecursion P xs → AllByRecursion P (all_but key wanted xs)
  all_but-all P wanted [] all = tt
  all_but-all P wanted (x ∷ xs) all = go (bytes_eq (key x) wanted) (all_but-all P wanted xs all.1)
    where
      go : (b : Bool) → AllByRecursion P (all_but key wanted xs) → AllByRecursion P (cond b xs (x ∷ all_but key wanted xs))
      go true h = all.1
      go false h = (all.0, h)

  module _ {Z : Type 0} (f : X → Z) (P : X → Type 0) (tells : (x y : X) → P x → P y → key x ≡ key y → f x ≡ f y) where
    -- the one that has the key comes first
    all_but-permutes : (y : X) (xs : List X) → P y → AllByRecursion P xs → has (key y) xs ≡ true → IsPermutation (map f xs) (f y ∷ map f (all_but key (key y) xs))
    all_but-permutes y [] p all e = cc e
    all_but-permutes y (x ∷ xs) p all e = go (bytes_eq (key x) (key y)) refl e (all_but-permutes y xs p all.1)
      where
        go : (b : Bool) → bytes_eq (key x) (key y) ≡ b → is_some (cond b (Some x) (earliest key (key y) xs)) ≡ true → (has (key y) xs ≡ true → IsPermutation (map f xs) (f y ∷ map f (all_but key (key y) xs))) → IsPermutation (f x ∷ map f xs) (f y ∷ map f (cond b xs (x ∷ all_but key (key y) xs)))
        go true is e h = subst (λ z. IsPermutation (f x ∷ map f xs) (z ∷ map f xs)) (tells x y all.0 p ((bytes_eq-Decides (key x) (key y)).0 is)) (IsPermutation-refl (f x ∷ map f xs))
        go false is e h =
            IsPermutation-trans _ _ _ (IsPermutation-cons (f x) _ _ (h e)) (IsPermutation-middle (f x ∷ []) (f y) (map f (all_but key (key y) xs)))

    -- where all are taken away, and no more, the lists have the same elements
    pub all_taken : (ys xs : List X) → AllByRecursion P ys → AllByRecursion P xs → without key xs ys ≡ [] → length ys ≤ length xs → IsPermutation (map f xs) (map f ys)
    all_taken [] xs all_ys all e le = subst (λ l. IsPermutation (map f xs) (map f l)) e (IsPermutation-refl (map f xs))
    all_taken (y ∷ ys) xs all_ys all e le = go (has (key y) xs) refl (all_taken ys (all_but key (key y) xs) all_ys.1 (all_but-all P (key y) xs all) e)
      where
        go : (b : Bool) → has (key y) xs ≡ b → (length ys ≤ length (all_but key (key y) xs) → IsPermutation (map f (all_but key (key y) xs)) (map f ys)) → IsPermutation (map f xs) (f y ∷ map f ys)
        go true is h =
            IsPermutation-trans _ _ _ (all_but-permutes y xs all_ys.0 all is) (IsPermutation-cons (f y) _ _ (h (omega (arith, le, all_but-length (key y) xs))))
        go false is h =
            let left : without key xs ys ≡ [] = ap (λ l. without key l ys) (sym (all_but-none (key y) xs is)) ∙ e in
            absurd (omega (arith, le, without-length xs ys, ap length left))

  any_are : (xs : List X) → AllByRecursion (λ _. ⊤) xs
  any_are [] = tt
  any_are (x ∷ xs) = (tt, any_are xs)

  -- where nothing is left on either side, the keys are the same in some order
  pub same_keys : (xs ys : List X) → without key xs ys ≡ [] → without key ys xs ≡ [] → IsPermutation (map key xs) (map key ys)
  same_keys xs ys e f = all_taken key (λ _. ⊤) (λ x y p q same. same) ys xs (any_are ys) (any_are xs) e (omega (arith, without-length ys xs, ap length f))

  -- how many have a key
  abbrev one : List ℕ → List ℕ → ℕ
  one k w = cond (bytes_eq w k) 1 0

  abbrev count : List ℕ → List X → ℕ
  count k [] = 0
  count k (x ∷ xs) = one k (key x) + count k xs

  count-sum : (k : List ℕ) (xs : List X) → sum_by (one k) (map key xs) ≡ count k xs
  count-sum k [] = refl
  count-sum k (x ∷ xs) = sum_by-cons (one k) (key x) (map key xs) ∙ ap (λ n. one k (key x) + n) (count-sum k xs)

  zero_one : (a b : Bool) → (a ≡ true → b ≡ true → ⊥) → (n : ℕ) → cond a 1 0 + (n - cond b 1 0) ≡ (cond a 1 0 + n) - cond b 1 0
  zero_one true true apart n = absurd (apart refl refl)
  zero_one true false apart n = omega arith
  zero_one false b apart n = omega arith

  -- two keys of which one isn't the other aren't both a third
  not_both : (a b k : List ℕ) → bytes_eq a b ≡ false → bytes_eq a k ≡ true → bytes_eq b k ≡ true → ⊥
  not_both a b k apart one_is other_is =
      let same = (bytes_eq-Decides a b).1 ((bytes_eq-Decides a k).0 one_is ∙ sym ((bytes_eq-Decides b k).0 other_is)) in
      false≢true (sym apart ∙ same)

  count-all_but : (k wanted : List ℕ) (xs : List X) → count k (all_but key wanted xs) ≡ count k xs - one k wanted
  count-all_but k wanted [] = omega arith
  count-all_but k wanted (x ∷ xs) = go (bytes_eq (key x) wanted) refl (count-all_but k wanted xs)
    where
      go : (b : Bool) → bytes_eq (key x) wanted ≡ b → count k (all_but key wanted xs) ≡ count k xs - one k wanted → count k (cond b xs (x ∷ all_but key wanted xs)) ≡ (one k (key x) + count k xs) - one k wanted
      go true is h =
          let same : one k (key x) ≡ one k wanted = ap (one k) ((bytes_eq-Decides (key x) wanted).0 is) in
          omega (arith, same)
      go false is h =
          ap (λ n. one k (key x) + n) h
          ∙ zero_one (bytes_eq (key x) k) (bytes_eq wanted k) (not_both (key x) wanted k is) (count k xs)

  count-without : (k : List ℕ) (ys xs : List X) → count k (without key xs ys) ≡ count k xs - count k ys
  count-without k [] xs = omega arith
  count-without k (y ∷ ys) xs = omega (arith, count-without k ys (all_but key (key y) xs), count-all_but k (key y) xs)

  none_counted : (xs : List X) → ((k : List ℕ) → count k xs ≡ 0) → xs ≡ []
  none_counted [] h = refl
  none_counted (x ∷ xs) h =
      let is : one (key x) (key x) ≡ 1 = rw (bytes_eq-same (key x)) refl in
      absurd (omega (arith, h (key x), is))

  -- and where they are, nothing is left
  pub none_left : (xs ys : List X) → IsPermutation (map key xs) (map key ys) → without key xs ys ≡ []
  none_left xs ys same =
      none_counted (without key xs ys) (λ k. omega (arith, count-without k ys xs, sum_by-IsPermutation (one k) (map key xs) (map key ys) same, count-sum k xs, count-sum k ys))

  -- lists are the same in some order where their keys are, and equal keys have equal elements
  pub same_elements : (P : X → Type 0) → ((x y : X) → P x → P y → key x ≡ key y → x ≡ y) → (xs ys : List X) → AllByRecursion P xs → AllByRecursion P ys → IsPermutation (map key xs) (map key ys) → IsPermutation xs ys
  same_elements P tells xs ys all all_ys same =
      let le : length ys ≤ length xs = omega (arith, length_permutation (map key xs) (map key ys) same, length-map xs key, length-map ys key) in
      let mapped = all_taken (λ x. x) P tells ys xs all_ys all (none_left xs ys same) le in
      subst (λ l. IsPermutation l ys) (map-id xs) (subst (IsPermutation (map (λ x. x) xs)) (map-id ys) mapped)
