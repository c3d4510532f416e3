-- Tests that stay true, one by one and of lists.
use Rattle.std.proofs.Common.{◌≡◌, Bool, true, false, not, ◌&&◌, ◌||◌, List, [], ◌∷◌, refl, sym, ap, ◌∙◌}
use Rattle.std.specs.List.{list_all, list_any}
use Rattle.std.proofs.lemmas.Bool.{false≢true}

pub or-grows : (v u w z : Bool) → (v ≡ true → u ≡ true) → (w ≡ true → z ≡ true) → (v || w) ≡ true → (u || z) ≡ true
or-grows v true w z first second is = refl
or-grows true false w z first second is = absurd (false≢true (first refl))
or-grows false false w z first second is = second is

pub and-grows : (v u w z : Bool) → (v ≡ true → u ≡ true) → (w ≡ true → z ≡ true) → (v && w) ≡ true → (u && z) ≡ true
and-grows true u w z first second is = ap (λ b. b && z) (first refl) ∙ second is
and-grows false u w z first second is = absurd (false≢true is)

pub not-grows : (v u : Bool) → (u ≡ true → v ≡ true) → not v ≡ true → not u ≡ true
not-grows v false back is = refl
not-grows v true back is = sym (ap not (back refl)) ∙ is

pub both-true : (v w : Bool) → (v && w) ≡ true → (v ≡ true) × (w ≡ true)
both-true true w is = (refl, is)
both-true false w is = absurd (false≢true is)

pub any-grows : {X : Type 0} (f g : X → Bool) → ((x : X) → f x ≡ true → g x ≡ true) → (xs : List X) → list_any f xs ≡ true → list_any g xs ≡ true
any-grows f g each [] is = is
any-grows f g each (x ∷ xs) is = or-grows (f x) (g x) (list_any f xs) (list_any g xs) (each x) (any-grows f g each xs) is

pub all-grows : {X : Type 0} (f g : X → Bool) → ((x : X) → f x ≡ true → g x ≡ true) → (xs : List X) → list_all f xs ≡ true → list_all g xs ≡ true
all-grows f g each [] is = is
all-grows f g each (x ∷ xs) is = and-grows (f x) (g x) (list_all f xs) (list_all g xs) (each x) (all-grows f g each xs) is

pub all-true : {X : Type 0} (f : X → Bool) → ((x : X) → f x ≡ true) → (xs : List X) → list_all f xs ≡ true
all-true f each [] = refl
all-true f each (x ∷ xs) = ap (λ v. v && list_all f xs) (each x) ∙ all-true f each xs

-- a test that is two others
regroup : (a b c d : Bool) → ((a && b) && (c && d)) ≡ ((a && c) && (b && d))
regroup false b c d = refl
regroup true true c d = refl
regroup true false true d = refl
regroup true false false d = refl

pub all-both : {X : Type 0} (f g h : X → Bool) → ((x : X) → h x ≡ (f x && g x)) → (xs : List X) → list_all h xs ≡ (list_all f xs && list_all g xs)
all-both f g h each [] = refl
all-both f g h each (x ∷ xs) =
    ap (λ v. v && list_all h xs) (each x)
    ∙ ap (λ v. (f x && g x) && v) (all-both f g h each xs)
    ∙ regroup (f x) (g x) (list_all f xs) (list_all g xs)

-- two tests that are one where a third one is true
pub all-where : {X : Type 0} (f g h : X → Bool) → ((x : X) → f x ≡ true → g x ≡ h x) → (xs : List X) → list_all f xs ≡ true → list_all g xs ≡ list_all h xs
all-where f g h each [] is = refl
all-where f g h each (x ∷ xs) is =
    let parts = both-true (f x) (list_all f xs) is in
    ap (λ v. v && list_all g xs) (each x parts.0) ∙ ap (λ v. h x && v) (all-where f g h each xs parts.1)
