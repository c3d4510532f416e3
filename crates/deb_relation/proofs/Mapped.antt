-- Tests of lists of values that represent members.
use Rattle.std.proofs.Common.{◌≡◌, Bool, ◌&&◌, ◌||◌, List, [], ◌∷◌, map, refl, ap}
use Rattle.std.specs.List.{list_all, list_any}

pub any-map : {A B : Type 0} (view : A → B) (test : B → Bool) (xs : List A) → list_any (λ x. test (view x)) xs ≡ list_any test (map view xs)
any-map view test [] = refl
any-map view test (x ∷ xs) = ap (λ b. test (view x) || b) (any-map view test xs)

pub all-map : {A B : Type 0} (view : A → B) (test : B → Bool) (xs : List A) → list_all (λ x. test (view x)) xs ≡ list_all test (map view xs)
all-map view test [] = refl
all-map view test (x ∷ xs) = ap (λ b. test (view x) && b) (all-map view test xs)
