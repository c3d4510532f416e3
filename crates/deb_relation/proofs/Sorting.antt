-- A list that is sorted by texts, and then loses its repeats, is the set of its members.
use Rattle.std.proofs.Common.{◌≡◌, ◌≢◌, ◌⊎◌, inl, inr, ⊎_elim, ℕ, Bool, cond, not, ◌&&◌, List, [], ◌∷◌, ◌++◌, Option, Some, None, sym, ap, ap₂, ◌∙◌, refl, append-nil, arith, filter, length, map, unwrap_or, ◌<◌}
use Rattle.std.specs.List.{dedup, dedup_from, AllByRecursion}
use Rattle.std.specs.Ordering.{is_eq, is_lt, ordering_reverse}
use Rattle.std.specs.Cmp.{IsTotalOrder}
use Rattle.std.specs.List.Sorted.{IsSortedBy, IsStableBy, IsStrictlySortedBy, ties}
use Rattle.std.specs.declared.cmp.Ordering.{Ordering}
use Rattle.std.specs.declared.cmp.Ordering.TheVariants.{Less, Equal, Greater}
use Rattle.std.proofs.lemmas.Cmp.{nat_list_cmp_total, alike_right, tied_itself}
use Rattle.std.proofs.lemmas.List.Kept.{IsStrictlySortedBy-dedup}
use Rattle.deb_relation.specs.Grammar.{set_of, set_with}
use Rattle.deb_relation.specs.Laws.{Ascends}
use Rattle.deb_relation.specs.Sets.{byte_cmp, by_order, insert_by}
use Rattle.deb_relation.proofs.Ascending.{ascends-insert_by}
use Rattle.deb_relation.proofs.Inserting.{map-set_of}
use Rattle.deb_relation.proofs.SetLemmas.{ascends-set_with, first_less, tail-ascends}

abbrev head : {X : Type 0} → List X → Option X
head [] = None
head (x ∷ xs) = Some x

is_equal : (o : Ordering) → (o ≡ Equal) ⊎ (o ≢ Equal)
is_equal Less = inr (λ e. cc)
is_equal Equal = inl refl
is_equal Greater = inr (λ e. cc)

unequal : (o : Ordering) → o ≡ Less → o ≢ Equal
unequal o l e = let same : Less ≡ Equal = sym l ∙ e in cc

module _ {X : Type 0} (text : X → List ℕ) where
  abbrev order : X → X → Ordering
  order x y = byte_cmp (text x) (text y)

  abbrev pub is_before : X → X → Bool
  is_before x y = is_lt (order x y)

  abbrev pub is_same : X → X → Bool
  is_same x y = is_eq (order x y)

  total : IsTotalOrder order
  total = record {
    antisymm = λ x y. nat_list_cmp_total.antisymm (text x) (text y);
    trans = λ x y z. nat_list_cmp_total.trans (text x) (text y) (text z);
    congr = λ x y z. nat_list_cmp_total.congr (text x) (text y) (text z);
  }

  -- the first of a list that has the text of p
  abbrev first : X → List X → Option X
  first p [] = None
  first p (z ∷ zs) = by_order (order p z) (first p zs) (Some z) (first p zs)

  first-same : (p z : X) (zs : List X) → order p z ≡ Equal → first p (z ∷ zs) ≡ Some z
  first-same p z zs e = ap (λ o. by_order o (first p zs) (Some z) (first p zs)) e

  first-other : (p z : X) (zs : List X) → order p z ≢ Equal → first p (z ∷ zs) ≡ first p zs
  first-other p z zs n = by_cases (order p z) n
    where
      by_cases : (o : Ordering) → o ≢ Equal → by_order o (first p zs) (Some z) (first p zs) ≡ first p zs
      by_cases Less n = refl
      by_cases Equal n = absurd (n refl)
      by_cases Greater n = refl

  first-more : (p z : X) (xs ys : List X) → first p xs ≡ first p ys → first p (z ∷ xs) ≡ first p (z ∷ ys)
  first-more p z xs ys e = ap (λ f. by_order (order p z) f (Some z) f) e

  -- one of another text is passed over
  pass_over : (p z : X) (xs ys : List X) → order p z ≢ Equal → first p (xs ++ z ∷ ys) ≡ first p (xs ++ ys)
  pass_over p z [] ys n = first-other p z ys n
  pass_over p z (x ∷ xs) ys n = first-more p x (xs ++ z ∷ ys) (xs ++ ys) (pass_over p z xs ys n)

  -- and so are all that come after p
  pass_all : (p q : X) (xs ys : List X) → order p q ≡ Equal → AllByRecursion (λ z. order q z ≡ Less) xs → first p (xs ++ ys) ≡ first p ys
  pass_all p q [] ys e all = refl
  pass_all p q (x ∷ xs) ys e all = first-other p x (xs ++ ys) (unequal (order p x) (total.congr p q x e ∙ all.0)) ∙ pass_all p q xs ys e all.1

  absent : (p q : X) (xs : List X) → order p q ≡ Equal → AllByRecursion (λ z. order q z ≡ Less) xs → first p xs ≡ None
  absent p q xs e all = ap (first p) (sym (append-nil xs)) ∙ pass_all p q xs [] e all

  -- one more put into a set is found where none of its text was there
  first-insert_by : (p x : X) (ys rest : List X) → Ascends text ys → first p (insert_by text x ys ++ rest) ≡ first p (ys ++ x ∷ rest)
  first-insert_by p x [] rest a = refl
  first-insert_by p x (y ∷ ys) rest a = by_cases (first-insert_by p x ys rest (tail-ascends text y ys a)) (order x y) refl
    where
      by_cases : first p (insert_by text x ys ++ rest) ≡ first p (ys ++ x ∷ rest) → (o : Ordering) → order x y ≡ o → first p (by_order o (x ∷ y ∷ ys) (y ∷ ys) (y ∷ insert_by text x ys) ++ rest) ≡ first p (y ∷ ys ++ x ∷ rest)
      by_cases more Less e = ⊎_elim
          (λ s. first-same p x (y ∷ ys ++ rest) s ∙ sym (pass_all p x (y ∷ ys) (x ∷ rest) s (first_less text x (y ∷ ys) (e, a)) ∙ first-same p x rest s))
          (λ n. first-other p x (y ∷ ys ++ rest) n ∙ sym (pass_over p x (y ∷ ys) rest n))
          (is_equal (order p x))
      by_cases more Equal e = ⊎_elim
          (λ s. first-same p y (ys ++ rest) s ∙ sym (first-same p y (ys ++ x ∷ rest) s))
          (λ n. sym (pass_over p x (y ∷ ys) rest (λ s. n (sym (alike_right total x y p e) ∙ s))))
          (is_equal (order p y))
      by_cases more Greater e = first-more p y (insert_by text x ys ++ rest) (ys ++ x ∷ rest) more

  first-set_with : (p : X) (xs set : List X) → Ascends text set → first p (set_with text xs set) ≡ first p (set ++ xs)
  first-set_with p [] set a = ap (first p) (sym (append-nil set))
  first-set_with p (x ∷ xs) set a = first-set_with p xs (insert_by text x set) (ascends-insert_by text x set a) ∙ first-insert_by p x set xs a

  -- a repeat after one of its text isn't found
  first-dedup_from : (p k : X) (xs : List X) → first p (dedup_from is_same k xs) ≡ first p (k ∷ xs)
  first-dedup_from p k [] = refl
  first-dedup_from p k (x ∷ xs) = by_cases (first-dedup_from p k xs) (first-dedup_from p x xs) (order x k) refl
    where
      by_cases : first p (dedup_from is_same k xs) ≡ first p (k ∷ xs) → first p (dedup_from is_same x xs) ≡ first p (x ∷ xs) → (o : Ordering) → order x k ≡ o → first p (cond (is_eq o) (dedup_from is_same k xs) (k ∷ dedup_from is_same x xs)) ≡ first p (k ∷ x ∷ xs)
      by_cases gone kept Less e = first-more p k (dedup_from is_same x xs) (x ∷ xs) kept
      by_cases gone kept Equal e = gone ∙ ⊎_elim
          (λ s. first-same p k xs s ∙ sym (first-same p k (x ∷ xs) s))
          (λ n. sym (pass_over p x (k ∷ []) xs (λ s. n (sym (alike_right total x k p e) ∙ s))))
          (is_equal (order p k))
      by_cases gone kept Greater e = first-more p k (dedup_from is_same x xs) (x ∷ xs) kept

  first-dedup : (p : X) (xs : List X) → first p (dedup is_same xs) ≡ first p xs
  first-dedup p [] = refl
  first-dedup p (x ∷ xs) = first-dedup_from p x xs

  -- the first of all that have the text of p
  first-filter : (p : X) (xs : List X) → first p xs ≡ head (filter (ties is_before p) xs)
  first-filter p [] = refl
  first-filter p (x ∷ xs) = by_cases (first-filter p xs) (order p x) ∙ ap (λ o. head (cond (not (is_lt (order p x)) && not (is_lt o)) (x ∷ filter (ties is_before p) xs) (filter (ties is_before p) xs))) (sym (total.antisymm x p))
    where
      by_cases : first p xs ≡ head (filter (ties is_before p) xs) → (o : Ordering) → by_order o (first p xs) (Some x) (first p xs) ≡ head (cond (not (is_lt o) && not (is_lt (ordering_reverse o))) (x ∷ filter (ties is_before p) xs) (filter (ties is_before p) xs))
      by_cases more Less = more
      by_cases more Equal = refl
      by_cases more Greater = more

  some≢none : (x : X) → Some x ≡ None → ⊥
  some≢none x e = cc

  first-itself : (x : X) (xs : List X) → first x (x ∷ xs) ≡ Some x
  first-itself x xs = first-same x x xs (tied_itself total x)

  all_behind : (p x : X) (xs : List X) → order p x ≡ Less → AllByRecursion (λ z. order x z ≡ Less) xs → AllByRecursion (λ z. order p z ≡ Less) xs
  all_behind p x [] e all = tt
  all_behind p x (z ∷ zs) e all = (total.trans p x z e all.0, all_behind p x zs e all.1)

  not_among : (p x : X) (xs : List X) → order p x ≡ Less → AllByRecursion (λ z. order x z ≡ Less) xs → first p (x ∷ xs) ≡ None
  not_among p x xs e all = absent p p (x ∷ xs) (tied_itself total p) (e, all_behind p x xs e all)

  -- ascending lists that have the same first of each text are one
  one_list : (xs ys : List X) → IsStrictlySortedBy order xs → IsStrictlySortedBy order ys → ((p : X) → first p xs ≡ first p ys) → xs ≡ ys
  unfolding IsStrictlySortedBy
  one_list [] [] s t same = refl
  one_list [] (y ∷ ys) s t same = absurd (some≢none y (sym (same y ∙ first-itself y ys)))
  one_list (x ∷ xs) [] s t same = absurd (some≢none x (sym (first-itself x xs) ∙ same x))
  one_list (x ∷ xs) (y ∷ ys) s t same = by_cases (one_list xs ys s.1 t.1) (order x y) refl
    where
      both_absent : (p : X) → order x y ≡ Equal → order p x ≡ Equal → first p xs ≡ first p ys
      both_absent p e is = absent p x xs is s.0 ∙ sym (absent p y ys (sym (alike_right total x y p e) ∙ is) t.0)

      both_behind : (p : X) → order x y ≡ Equal → order p x ≢ Equal → first p xs ≡ first p ys
      both_behind p e n = sym (first-other p x xs n) ∙ same p ∙ first-other p y ys (λ is. n (alike_right total x y p e ∙ is))

      by_cases : (((p : X) → first p xs ≡ first p ys) → xs ≡ ys) → (o : Ordering) → order x y ≡ o → x ∷ xs ≡ y ∷ ys
      by_cases more Less e = absurd (some≢none x (sym (first-itself x xs) ∙ same x ∙ not_among x y ys e t.0))
      by_cases more Equal e =
          let heads : Some x ≡ Some y = sym (first-itself x xs) ∙ same x ∙ first-same x y ys e in
          ap₂ (λ z zs. z ∷ zs) (ap (λ o. unwrap_or o x) heads) (more (λ p. ⊎_elim (both_absent p e) (both_behind p e) (is_equal (order p x))))
      by_cases more Greater e = absurd (some≢none y (sym (first-itself y ys) ∙ sym (same y) ∙ not_among y x xs (total.antisymm y x ∙ ap ordering_reverse e) s.0))

  strictly : (xs : List X) → Ascends text xs → IsStrictlySortedBy order xs
  unfolding IsStrictlySortedBy
  strictly [] a = tt
  strictly (x ∷ xs) a = (first_less text x xs a, strictly xs (tail-ascends text x xs a))

  -- what is left of a list that was sorted by texts, once repeats are gone
  pub set_of-sorted : (xs ys : List X) → IsSortedBy is_before ys → IsStableBy is_before xs ys → dedup is_same ys ≡ set_of text xs
  set_of-sorted xs ys sorted stable =
      one_list (dedup is_same ys) (set_of text xs) (IsStrictlySortedBy-dedup total (λ x y. refl) ys sorted) (strictly (set_of text xs) (ascends-set_with text xs [] tt))
      (λ p. first-dedup p ys ∙ first-filter p ys ∙ ap head (stable p) ∙ sym (first-filter p xs) ∙ sym (first-set_with p xs [] tt))

-- The same of values that represent members.
pub map-sorted : {A X : Type 0} (view : X → A) (text : A → List ℕ) (xs ys zs : List X) → IsSortedBy (is_before (λ x. text (view x))) ys → IsStableBy (is_before (λ x. text (view x))) xs ys → zs ≡ dedup (is_same (λ x. text (view x))) ys → map view zs ≡ set_of text (map view xs)
map-sorted view text xs ys zs sorted stable left = ap (map view) (left ∙ set_of-sorted (λ x. text (view x)) xs ys sorted stable) ∙ map-set_of view text xs

-- Fewer than two members are the set of them.
pub map-few : {A X : Type 0} (view : X → A) (text : A → List ℕ) (xs : List X) → length xs < 2 → map view xs ≡ set_of text (map view xs)
map-few view text [] few = refl
map-few view text (x ∷ []) few = refl
map-few view text (x ∷ y ∷ xs) few = absurd (omega arith)
