-- What lists contain that are made of other lists, and tests of all that they contain.
use Rattle.std.proofs.Common.{◌≡◌, ◌⊎◌, inl, inr, ℕ, zero, suc, ◌<◌, Bool, true, false, cond, not, ◌||◌, List, [], ◌∷◌, ◌++◌, length, map, get_or, Some, slice_get, refl, sym, ap, ◌∙◌, subst, arith}
use Rattle.std.specs.List.{Contains, filter, flat_map, list_all, list_any}
use Rattle.std.proofs.lemmas.Bool.{and_from, false≢true}
use Rattle.std.proofs.lemmas.Grind.{flat_map-append}
use Rattle.std.proofs.lemmas.List.{map-append}
use Rattle.std.proofs.lemmas.List.Elements.{Contains-append_left, Contains-append_right, Contains-append_cases, filter-append}

pub contains-head : {X : Type 0} (x : X) (xs : List X) → Contains (x ∷ xs) x
contains-head x xs = (zero, omega arith, refl)

pub contains-tail : {X : Type 0} (x y : X) (xs : List X) → Contains xs y → Contains (x ∷ xs) y
contains-tail x y xs has = let within = has.1 in (suc has.0, omega (arith, within), has.2)

-- the first of a list, or one of the others
pub contains-cases : {X : Type 0} (x y : X) (xs : List X) → Contains (x ∷ xs) y → (x ≡ y) ⊎ Contains xs y
contains-cases x y xs has = cases has.0 has.1 has.2
  where
    cases : (k : ℕ) → k < length (x ∷ xs) → get_or (x ∷ xs) k y ≡ y → (x ≡ y) ⊎ Contains xs y
    cases zero within is = inl is
    cases (suc k) within is = inr (k, omega (arith, within), is)

pub contains-none : {X : Type 0} (x : X) → Contains [] x → ⊥
contains-none x has = let within = has.1 in omega (arith, within)

pub contains-flat : {X Y : Type 0} (f : X → List Y) (xs : List X) (x : X) (y : Y) → Contains xs x → Contains (f x) y → Contains (flat_map f xs) y
contains-flat f [] x y has within = absurd (contains-none x has)
contains-flat f (z ∷ xs) x y has within = elim (contains-cases z x xs has) [
  | inl first ↦ Contains-append_left (f z) (flat_map f xs) y (subst (λ v. Contains (f v) y) (sym first) within)
  | inr later ↦ Contains-append_right (f z) (flat_map f xs) y (contains-flat f xs x y later within)
]

-- what a list of lists contains, one of them contains
pub record FromFlat {X Y : Type 0} (f : X → List Y) (xs : List X) (y : Y) : Type 0 where
  pub from : X
  pub is : Contains xs from
  pub has : Contains (f from) y

pub from-flat : {X Y : Type 0} (f : X → List Y) (xs : List X) (y : Y) → Contains (flat_map f xs) y → FromFlat f xs y
from-flat f [] y has = absurd (contains-none y has)
from-flat f (x ∷ xs) y has = elim (Contains-append_cases (f x) (flat_map f xs) y has) [
  | inl first ↦ record { from = x; is = contains-head x xs; has = first }
  | inr later ↦
      let rest = from-flat f xs y later in
      record { from = rest.from; is = contains-tail x rest.from xs rest.is; has = rest.has }
]

-- what a list contains that is made element by element
pub record FromMap {X Y : Type 0} (f : X → Y) (xs : List X) (y : Y) : Type 0 where
  pub from : X
  pub is : Contains xs from
  pub same : f from ≡ y

pub from-map : {X Y : Type 0} (f : X → Y) (xs : List X) (y : Y) → Contains (map f xs) y → FromMap f xs y
from-map f [] y has = absurd (contains-none y has)
from-map f (x ∷ xs) y has = elim (contains-cases (f x) y (map f xs) has) [
  | inl first ↦ record { from = x; is = contains-head x xs; same = first }
  | inr later ↦
      let rest = from-map f xs y later in
      record { from = rest.from; is = contains-tail x rest.from xs rest.is; same = rest.same }
]

pub contains-map : {X Y : Type 0} (f : X → Y) (xs : List X) (x : X) → Contains xs x → Contains (map f xs) (f x)
contains-map f [] x has = absurd (contains-none x has)
contains-map f (y ∷ xs) x has = elim (contains-cases y x xs has) [
  | inl first ↦ subst (λ v. Contains (f y ∷ map f xs) (f v)) first (contains-head (f y) (map f xs))
  | inr later ↦ contains-tail (f y) (f x) (map f xs) (contains-map f xs x later)
]

pub from-filter : {X : Type 0} (test : X → Bool) (xs : List X) (y : X) → Contains (filter test xs) y → Contains xs y × (test y ≡ true)
from-filter test [] y has = absurd (contains-none y has)
from-filter test (x ∷ xs) y has = go (test x) refl (from-filter test xs y) has
  where
    go : (v : Bool) → test x ≡ v → (Contains (filter test xs) y → Contains xs y × (test y ≡ true)) → Contains (cond v (x ∷ filter test xs) (filter test xs)) y → Contains (x ∷ xs) y × (test y ≡ true)
    go true passes rest has = elim (contains-cases x y (filter test xs) has) [
      | inl first ↦ (subst (Contains (x ∷ xs)) first (contains-head x xs), sym (ap test first) ∙ passes)
      | inr later ↦ let more = rest later in (contains-tail x y xs more.0, more.1)
    ]
    go false fails rest has = let more = rest has in (contains-tail x y xs more.0, more.1)

pub all-if-each : {X : Type 0} (test : X → Bool) (xs : List X) → ((x : X) → Contains xs x → test x ≡ true) → list_all test xs ≡ true
all-if-each test [] each = refl
all-if-each test (x ∷ xs) each = and_from (test x) (list_all test xs) (each x (contains-head x xs)) (all-if-each test xs (λ y has. each y (contains-tail x y xs has)))

-- one after the other, or all together
pub flat-twice : {X Y Z : Type 0} (f : Y → List Z) (g : X → List Y) (xs : List X) → flat_map (λ x. flat_map f (g x)) xs ≡ flat_map f (flat_map g xs)
flat-twice f g [] = refl
flat-twice f g (x ∷ xs) = ap (λ l. flat_map f (g x) ++ l) (flat-twice f g xs) ∙ sym (flat_map-append f (g x) (flat_map g xs))

pub map-at : {X Y : Type 0} (f : X → Y) (xs : List X) (at : ℕ) (d : X) (y : Y) → slice_get (map f xs) at ≡ Some y → (at < length xs) × (f (get_or xs at d) ≡ y)
map-at f [] at d y is = absurd cc
map-at f (x ∷ xs) zero d y is = (omega arith, cc)
map-at f (x ∷ xs) (suc at) d y is = let rest = map-at f xs at d y is in let within = rest.0 in (omega (arith, within), rest.1)

pub none-contained : {X : Type 0} (test : X → Bool) (xs : List X) (x : X) → list_any test xs ≡ false → Contains xs x → not (test x) ≡ true
none-contained test [] x none has = absurd (contains-none x has)
none-contained test (y ∷ xs) x none has = go (test y) refl none (none-contained test xs x)
  where
    go : (v : Bool) → test y ≡ v → (v || list_any test xs) ≡ false → (list_any test xs ≡ false → Contains xs x → not (test x) ≡ true) → not (test x) ≡ true
    go true passes none rest = absurd (false≢true (sym none))
    go false fails none rest = elim (contains-cases y x xs has) [
      | inl first ↦ ap not (sym (ap test first) ∙ fails)
      | inr later ↦ rest none later
    ]

-- one more of those that pass
pub kept-more : {X Y : Type 0} (f : X → Y) (test : X → Bool) (xs : List X) (x : X) → map f (filter test (xs ++ x ∷ [])) ≡ map f (filter test xs) ++ cond (test x) (f x ∷ []) []
kept-more f test xs x =
    ap (map f) (filter-append test xs (x ∷ []))
    ∙ map-append f (filter test xs) (filter test (x ∷ []))
    ∙ ap (λ l. map f (filter test xs) ++ l) (one (test x))
  where
    one : (v : Bool) → map f (cond v (x ∷ []) []) ≡ cond v (f x ∷ []) []
    one true = refl
    one false = refl
