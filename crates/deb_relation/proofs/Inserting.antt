-- Members that are put into a set.
use Rattle.std.proofs.Common.{◌≡◌, ℕ, List, [], ◌∷◌, map, ap, ◌∙◌, refl}
use Rattle.std.specs.declared.cmp.Ordering.{Ordering}
use Rattle.std.specs.declared.cmp.Ordering.TheVariants.{Less, Equal, Greater}
use Rattle.deb_relation.specs.Grammar.{set_of, set_with}
use Rattle.deb_relation.specs.Reading.{append}
use Rattle.deb_relation.specs.Sets.{byte_cmp, by_order, insert_by}

-- a set of values that represent members is the set of those members
pub map-insert_by : {A B : Type 0} (view : A → B) (text : B → List ℕ) (x : A) (xs : List A) → map view (insert_by (λ y. text (view y)) x xs) ≡ insert_by text (view x) (map view xs)
map-insert_by view text x [] = refl
map-insert_by view text x (y ∷ ys) = by_cases (byte_cmp (text (view x)) (text (view y))) (map-insert_by view text x ys)
  where
    by_cases : (o : Ordering) → map view (insert_by (λ y. text (view y)) x ys) ≡ insert_by text (view x) (map view ys) → map view (by_order o (x ∷ y ∷ ys) (y ∷ ys) (y ∷ insert_by (λ y. text (view y)) x ys)) ≡ by_order o (view x ∷ view y ∷ map view ys) (view y ∷ map view ys) (view y ∷ insert_by text (view x) (map view ys))
    by_cases Less e = refl
    by_cases Equal e = refl
    by_cases Greater e = ap (λ zs. view y ∷ zs) e

pub map-set_with : {A B : Type 0} (view : A → B) (text : B → List ℕ) (xs set : List A) → map view (set_with (λ y. text (view y)) xs set) ≡ set_with text (map view xs) (map view set)
map-set_with view text [] set = refl
map-set_with view text (x ∷ xs) set = map-set_with view text xs (insert_by (λ y. text (view y)) x set) ∙ ap (set_with text (map view xs)) (map-insert_by view text x set)

pub map-set_of : {A B : Type 0} (view : A → B) (text : B → List ℕ) (xs : List A) → map view (set_of (λ y. text (view y)) xs) ≡ set_of text (map view xs)
map-set_of view text xs = map-set_with view text xs []

-- one member more, after the others
pub set_with-append : {A : Type 0} (text : A → List ℕ) (x : A) (xs set : List A) → set_with text (append x xs) set ≡ insert_by text x (set_with text xs set)
set_with-append text x [] set = refl
set_with-append text x (y ∷ ys) set = set_with-append text x ys (insert_by text y set)
