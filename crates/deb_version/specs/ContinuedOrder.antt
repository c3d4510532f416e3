-- The order of two lists, where the shorter one is continued by one value: it is total where the
-- order of the values is.
use Rattle.std.proofs.Common.{◌≡◌, List, [], ◌∷◌, refl, sym, ap, ◌∙◌}
use Rattle.std.specs.Ordering.{ordering_then, ordering_reverse}
use Rattle.std.specs.Cmp.{IsTotalOrder, alike_right, then_flip, tied_itself}
use Rattle.std.specs.declared.cmp.Ordering.{Ordering}
use Rattle.std.specs.declared.cmp.Ordering.TheVariants.{Less, Equal, Greater}
use Rattle.deb_version.specs.Order.{continued_cmp}

-- what follows of two comparisons, one after the other
pub then-Equal : (r s : Ordering) → ordering_then r s ≡ Equal → (r ≡ Equal) × (s ≡ Equal)
then-Equal Less s e = cc e
then-Equal Equal s e = (refl, e)
then-Equal Greater s e = cc e

-- a first comparison before Less: it is Less, or Equal and the second is Less
then-Less : {P : Type 0} → (r s : Ordering) → ordering_then r s ≡ Less → (r ≡ Less → P)
    → (r ≡ Equal → s ≡ Less → P) → P
then-Less Less s e f g = f refl
then-Less Equal s e f g = g refl e
then-Less Greater s e f g = cc e

module _ {K : Type 0} {R : K → K → Ordering} (o : IsTotalOrder R) where
  -- one index before two comparisons that are chained
  step-trans : (a b c : K) (p q r : Ordering) → (p ≡ Less → q ≡ Less → r ≡ Less)
      → ordering_then (R a b) p ≡ Less → ordering_then (R b c) q ≡ Less
      → ordering_then (R a c) r ≡ Less
  step-trans a b c p q r chain ab bc =
      then-Less (R a b) p ab
      (λ less. then-Less (R b c) q bc
      (λ less'. ap (λ v. ordering_then v r) (o.trans a b c less less'))
      (λ equal' h. ap (λ v. ordering_then v r) (sym (alike_right o b c a equal') ∙ less)))
      (λ equal h. then-Less (R b c) q bc
      (λ less'. ap (λ v. ordering_then v r) (o.congr a b c equal ∙ less'))
      (λ equal' h'. ap (λ v. ordering_then v r) (o.congr a b c equal ∙ equal') ∙ chain h h'))

  step-congr : (a b c : K) (p q r : Ordering) → (p ≡ Equal → q ≡ r)
      → ordering_then (R a b) p ≡ Equal → ordering_then (R a c) q ≡ ordering_then (R b c) r
  step-congr a b c p q r alike ab =
      let both = then-Equal (R a b) p ab in
      ap (λ v. ordering_then v q) (o.congr a b c both.0) ∙ ap (ordering_then (R b c)) (alike both.1)

  step-reverse : (a b : K) (p q : Ordering) → p ≡ ordering_reverse q
      → ordering_then (R a b) p ≡ ordering_reverse (ordering_then (R b a) q)
  step-reverse a b p q e =
      ap (λ v. ordering_then v p) (o.antisymm a b) ∙ ap (ordering_then (ordering_reverse (R b a))) e
      ∙ then_flip (R b a) q

  module _ (z : K) where
    reverses : (xs ys : List K)
        → continued_cmp R z xs ys ≡ ordering_reverse (continued_cmp R z ys xs)
    reverses [] [] = refl
    reverses [] (y ∷ ys) = step-reverse z y _ _ (reverses [] ys)
    reverses (x ∷ xs) [] = step-reverse x z _ _ (reverses xs [])
    reverses (x ∷ xs) (y ∷ ys) = step-reverse x y _ _ (reverses xs ys)

    chains : (xs ys zs : List K) → continued_cmp R z xs ys ≡ Less → continued_cmp R z ys zs ≡ Less
        → continued_cmp R z xs zs ≡ Less
    chains [] [] [] p q = p
    chains [] [] (c ∷ cs) p q = q
    chains [] (b ∷ bs) [] p q =
        sym (ap (λ v. ordering_then v Equal) (tied_itself o z))
        ∙ step-trans z b z _ _ Equal (chains [] bs []) p q
    chains [] (b ∷ bs) (c ∷ cs) p q = step-trans z b c _ _ _ (chains [] bs cs) p q
    chains (a ∷ l) [] [] p q = p
    chains (a ∷ l) [] (c ∷ cs) p q = step-trans a z c _ _ _ (chains l [] cs) p q
    chains (a ∷ l) (b ∷ bs) [] p q = step-trans a b z _ _ _ (chains l bs []) p q
    chains (a ∷ l) (b ∷ bs) (c ∷ cs) p q = step-trans a b c _ _ _ (chains l bs cs) p q

    congruent : (xs ys zs : List K) → continued_cmp R z xs ys ≡ Equal
        → continued_cmp R z xs zs ≡ continued_cmp R z ys zs
    congruent [] [] zs p = refl
    congruent [] (b ∷ bs) [] p =
        sym (ap (λ v. ordering_then v Equal) (tied_itself o z))
        ∙ step-congr z b z _ Equal _ (congruent [] bs []) p
    congruent [] (b ∷ bs) (c ∷ cs) p = step-congr z b c _ _ _ (congruent [] bs cs) p
    congruent (a ∷ l) [] [] p =
        step-congr a z z _ _ Equal (congruent l [] []) p
        ∙ ap (λ v. ordering_then v Equal) (tied_itself o z)
    congruent (a ∷ l) [] (c ∷ cs) p = step-congr a z c _ _ _ (congruent l [] cs) p
    congruent (a ∷ l) (b ∷ bs) [] p = step-congr a b z _ _ _ (congruent l bs []) p
    congruent (a ∷ l) (b ∷ bs) (c ∷ cs) p = step-congr a b c _ _ _ (congruent l bs cs) p

  -- The order of continued lists is total.
  pub continued_total : (z : K) → IsTotalOrder (continued_cmp R z)
  continued_total z = record { antisymm = reverses z; trans = chains z; congr = congruent z }
