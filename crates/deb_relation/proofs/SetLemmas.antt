-- Sets of members: what holds of each member, and that an ascending list is the set of its members.
use Rattle.std.proofs.Common.{◌≡◌, ℕ, List, [], ◌∷◌, ◌++◌, refl, sym, ap, ◌∙◌, subst, append_assoc, append-nil}
use Rattle.std.specs.List.{AllByRecursion}
use Rattle.std.specs.Ordering.{ordering_reverse}
use Rattle.std.proofs.lemmas.Cmp.{nat_list_cmp_total}
use Rattle.std.specs.declared.cmp.Ordering.TheVariants.{Less, Greater}
use Rattle.deb_relation.specs.Grammar.{set_with, set_of}
use Rattle.deb_relation.specs.Laws.{Ascends}
use Rattle.deb_relation.specs.Sets.{byte_cmp, by_order, insert_by}
use Rattle.deb_relation.proofs.Ascending.{ascends-insert_by}
use Rattle.deb_relation.proofs.AscendingSets.{all-insert_by}

module _ {A : Type 0} (text : A → List ℕ) where
  pub all-set_with : (P : A → Type 0) (xs set : List A) → AllByRecursion P xs → AllByRecursion P set → AllByRecursion P (set_with text xs set)
  all-set_with P [] set all p = p
  all-set_with P (x ∷ xs) set all p = all-set_with P xs (insert_by text x set) all.1 (all-insert_by P text x set all.0 p)

  pub ascends-set_with : (xs set : List A) → Ascends text set → Ascends text (set_with text xs set)
  ascends-set_with [] set a = a
  ascends-set_with (x ∷ xs) set a = ascends-set_with xs (insert_by text x set) (ascends-insert_by text x set a)

  -- the first member comes before all others
  pub first_less : (x : A) (zs : List A) → Ascends text (x ∷ zs) → AllByRecursion (λ z. byte_cmp (text x) (text z) ≡ Less) zs
  first_less x [] a = tt
  first_less x (y ∷ ys) a = (a.0, weaker ys (first_less y ys a.1))
    where
      weaker : (zs : List A) → AllByRecursion (λ z. byte_cmp (text y) (text z) ≡ Less) zs → AllByRecursion (λ z. byte_cmp (text x) (text z) ≡ Less) zs
      weaker [] all = tt
      weaker (z ∷ zs) all = (nat_list_cmp_total.trans (text x) (text y) (text z) a.0 all.0, weaker zs all.1)

  middle : (P : A → Type 0) (xs : List A) (y : A) (ys : List A) → AllByRecursion P (xs ++ y ∷ ys) → P y
  middle P [] y ys all = all.0
  middle P (x ∷ xs) y ys all = middle P xs y ys all.1

  pub tail-ascends : (x : A) (zs : List A) → Ascends text (x ∷ zs) → Ascends text zs
  tail-ascends x [] a = tt
  tail-ascends x (z ∷ zs) a = a.1

  insert-last : (xs : List A) (y : A) (ys : List A) → Ascends text (xs ++ y ∷ ys) → insert_by text y xs ≡ xs ++ y ∷ []
  insert-last [] y ys a = refl
  insert-last (x ∷ xs) y ys a =
      let less : byte_cmp (text x) (text y) ≡ Less = middle (λ z. byte_cmp (text x) (text z) ≡ Less) xs y ys (first_less x (xs ++ y ∷ ys) a) in
      let greater : byte_cmp (text y) (text x) ≡ Greater = nat_list_cmp_total.antisymm (text y) (text x) ∙ ap ordering_reverse less in
      ap (λ o. by_order o (y ∷ x ∷ xs) (x ∷ xs) (x ∷ insert_by text y xs)) greater ∙ ap (λ zs. x ∷ zs) (insert-last xs y ys (tail-ascends x (xs ++ y ∷ ys) a))

  set_with-ascends : (ys xs : List A) → Ascends text (xs ++ ys) → set_with text ys xs ≡ xs ++ ys
  set_with-ascends [] xs a = sym (append-nil xs)
  set_with-ascends (y ∷ ys) xs a =
      ap (set_with text ys) (insert-last xs y ys a)
      ∙ set_with-ascends ys (xs ++ y ∷ []) (subst (Ascends text) (sym (append_assoc xs (y ∷ []) ys)) a)
      ∙ append_assoc xs (y ∷ []) ys

  -- an ascending list is the set of its members
  pub set_of-ascends : (xs : List A) → Ascends text xs → set_of text xs ≡ xs
  set_of-ascends xs a = set_with-ascends xs [] a

  -- the set of a set is that set
  pub set_again : (xs : List A) → set_of text (set_of text xs) ≡ set_of text xs
  set_again xs = set_of-ascends (set_of text xs) (ascends-set_with xs [] tt)
