-- Lists in which each element stands several times in a row: in order, and stable, where the
-- elements are.
use Rattle.std.proofs.Common.{◌≡◌, ℕ, zero, suc, ◌+◌, Bool, true, false, not, ◌&&◌, List, [], ◌∷◌, ◌++◌, replicate, ◌⊎◌, inl, inr, refl, sym, ap, ap₂, ◌∙◌, arith, All}
use Rattle.std.specs.Cmp.{IsStrictWeakOrder, both_ways}
use Rattle.std.specs.List.{AllPairs, filter, flat_map}
use Rattle.std.specs.List.Sorted.{IsSortedBy, IsStableBy, ties}
use Rattle.std.proofs.lemmas.Bool.{cases_Bool}
use Rattle.std.proofs.lemmas.List.Elements.{All-append, All-head, All-nil, All-replicate, All-tail, filter-append}
use Rattle.std.proofs.lemmas.List.Kept.{AllPairs-cons}
use Rattle.std.proofs.lemmas.List.Sorted.{sorted_far}

-- neither of two tests passes
neither : (s t : Bool) → (not s && not t) ≡ true → (s ≡ false) × (t ≡ false)
neither true t e = cc e
neither false true e = cc e
neither false false e = (refl, refl)

-- a test passes each of several copies, or none
all_pass : {X : Type 0} (t : X → Bool) (x : X) → t x ≡ true → (n : ℕ) → filter t (replicate n x) ≡ replicate n x
all_pass t x passes zero = refl
all_pass t x passes (suc n) = rw passes (ap (λ l. x ∷ l) (all_pass t x passes n))

none_passes : {X : Type 0} (t : X → Bool) (x : X) → t x ≡ false → (n : ℕ) → filter t (replicate n x) ≡ []
none_passes t x fails zero = refl
none_passes t x fails (suc n) = rw fails (none_passes t x fails n)

module _ {X : Type 0} {lt : X → X → Bool} (o : IsStrictWeakOrder lt) where
  ties_over : (x y z : X) → ties lt x z ≡ true → ties lt x y ≡ true → ties lt z y ≡ true
  ties_over x y z xz xy =
      let p = neither (lt x z) (lt z x) xz in
      let q = neither (lt x y) (lt y x) xy in
      rw (o.chain z x y p.1 q.0, o.chain y x z q.1 p.0) refl

  turned : (x z : X) → ties lt x z ≡ true → ties lt z x ≡ true
  turned x z e = let p = neither (lt x z) (lt z x) e in rw (p.0, p.1) refl

  -- what ties with one of two that tie ties with the other
  ties_alike : (x z : X) → ties lt x z ≡ true → (y : X) → ties lt x y ≡ ties lt z y
  ties_alike x z e y = both_ways (ties lt x y) (ties lt z y) (ties_over x y z e) (ties_over z y x (turned x z e))

  -- the second isn't before the first
  abbrev InOrder : X → X → Type 0
  InOrder x y = lt y x ≡ false

  itself : (x : X) → InOrder x x
  itself x = elim (cases_Bool (lt x x)) [
    | inl before ↦ o.one_way x x before
    | inr not_before ↦ not_before
  ]

  module _ {P : Type 0} (f : P → X) (count : P → ℕ) where
    abbrev copies : P → List X
    copies p = replicate (count p) (f p)

    abbrev repeated : List P → List X
    repeated ps = flat_map copies ps

    behind : (x : X) (ps : List P) → All (λ p. InOrder x (f p)) ps → All (InOrder x) (repeated ps)
    behind x [] all = All-nil (InOrder x)
    behind x (p ∷ ps) all =
        All-append (InOrder x) (copies p) (repeated ps)
        (All-replicate (InOrder x) (count p) (f p) (All-head (λ p. InOrder x (f p)) p ps all)) (behind x ps (All-tail (λ p. InOrder x (f p)) p ps all))

    -- copies of x before what isn't before x
    copies_before : (n : ℕ) (x : X) (ys : List X) → All (InOrder x) ys → AllPairs InOrder ys → AllPairs InOrder (replicate n x ++ ys)
    copies_before zero x ys all pairs = pairs
    copies_before (suc n) x ys all pairs =
        AllPairs-cons InOrder x (replicate n x ++ ys) (All-append (InOrder x) (replicate n x) ys (All-replicate (InOrder x) n x (itself x)) all) (copies_before n x ys all pairs)

    pairs-repeated : (ps : List P) → AllPairs (λ p q. InOrder (f p) (f q)) ps → AllPairs InOrder (repeated ps)
    pairs-repeated [] pairs = λ i j d before below. absurd (omega (arith, below))
    pairs-repeated (p ∷ ps) pairs =
        copies_before (count p) (f p) (repeated ps)
        (behind (f p) ps (λ k d below. pairs 0 (suc k) d (omega arith) (omega (arith, below))))
        (pairs-repeated ps (λ i j d before below. pairs (suc i) (suc j) d (omega (arith, before)) (omega (arith, below))))

    pub sorted-repeated : IsStrictWeakOrder (λ p q. lt (f p) (f q)) → (ps : List P) → IsSortedBy (λ p q. lt (f p) (f q)) ps → IsSortedBy lt (repeated ps)
    sorted-repeated weak ps sorted =
        let pairs = pairs-repeated ps (λ i j d before below. sorted_far (λ p q. lt (f p) (f q)) weak ps sorted i j d (omega (arith, before)) below) in
        λ k d low below. pairs k (k + 1) d (omega arith) below

    filter-repeated : (t : X → Bool) (ps : List P) → filter t (repeated ps) ≡ repeated (filter (λ p. t (f p)) ps)
    filter-repeated t [] = refl
    filter-repeated t (p ∷ ps) = filter-append t (copies p) (repeated ps) ∙ elim (cases_Bool (t (f p))) [
      | inl passes ↦ rw passes (ap₂ (λ a b. a ++ b) (all_pass t (f p) passes (count p)) (filter-repeated t ps))
      | inr fails ↦ rw fails (ap₂ (λ a b. a ++ b) (none_passes t (f p) fails (count p)) (filter-repeated t ps))
    ]

    -- an element that ties with x, or none does
    tied : (x : X) (ps : List P) → ((p : P) × ((y : X) → ties lt x y ≡ ties lt (f p) y)) ⊎ (filter (ties lt x) (repeated ps) ≡ [])
    tied x [] = inr refl
    tied x (p ∷ ps) = elim (cases_Bool (ties lt x (f p))) [
      | inl holds ↦ inl (p, ties_alike x (f p) holds)
      | inr fails ↦ elim (tied x ps) [
        | inl found ↦ inl found
        | inr none ↦ inr (filter-append (ties lt x) (copies p) (repeated ps) ∙ ap₂ (λ a b. a ++ b) (none_passes (ties lt x) (f p) fails (count p)) none)
      ]
    ]

    by_tied : (x : X) (p : P) (ps qs : List P) → ((y : X) → ties lt x y ≡ ties lt (f p) y) → IsStableBy (λ a b. lt (f a) (f b)) ps qs
        → filter (ties lt x) (repeated qs) ≡ filter (ties lt x) (repeated ps)
    by_tied x p ps qs alike h =
        let tests : ties lt x ≡ ties lt (f p) = λ i y. alike y i in
        ap (λ t. filter t (repeated qs)) tests ∙ filter-repeated (ties lt (f p)) qs ∙ ap repeated (h p) ∙ sym (filter-repeated (ties lt (f p)) ps)
        ∙ ap (λ t. filter t (repeated ps)) (sym tests)

    pub stable-repeated : (ps qs : List P) → IsStableBy (λ a b. lt (f a) (f b)) ps qs → IsStableBy lt (repeated ps) (repeated qs)
    stable-repeated ps qs h x = elim (tied x ps) [
      | inl found ↦ by_tied x found.0 ps qs found.1 h
      | inr none ↦ elim (tied x qs) [
        | inl found ↦ by_tied x found.0 ps qs found.1 h
        | inr none' ↦ none' ∙ sym none
      ]
    ]
