-- Tests of lists that are joined, mapped or filtered.
use Rattle.std.proofs.Common.{◌≡◌, Bool, true, false, cond, not, ◌&&◌, ◌||◌, List, [], ◌∷◌, refl, ap, ◌∙◌}
use Rattle.std.specs.List.{filter, flat_map, list_all, list_any}
use Rattle.std.proofs.lemmas.List.Folds.{list_all-append, list_any-append}

pub any-cond : {X : Type 0} (g : X → Bool) (v : Bool) (x : X) (xs : List X) → list_any g (cond v (x ∷ xs) xs) ≡ ((v && g x) || list_any g xs)
any-cond g true x xs = refl
any-cond g false x xs = refl

pub any-flat : {X Y : Type 0} (g : Y → Bool) (f : X → List Y) (xs : List X) → list_any g (flat_map f xs) ≡ list_any (λ x. list_any g (f x)) xs
any-flat g f [] = refl
any-flat g f (x ∷ xs) = list_any-append g (f x) (flat_map f xs) ∙ ap (λ b. list_any g (f x) || b) (any-flat g f xs)

pub any-filter : {X : Type 0} (g f : X → Bool) (xs : List X) → list_any g (filter f xs) ≡ list_any (λ x. f x && g x) xs
any-filter g f [] = refl
any-filter g f (x ∷ xs) = any-cond g (f x) x (filter f xs) ∙ ap (λ b. (f x && g x) || b) (any-filter g f xs)

pub all-flat : {X Y : Type 0} (g : Y → Bool) (f : X → List Y) (xs : List X) → list_all g (flat_map f xs) ≡ list_all (λ x. list_all g (f x)) xs
all-flat g f [] = refl
all-flat g f (x ∷ xs) = list_all-append g (f x) (flat_map f xs) ∙ ap (λ b. list_all g (f x) && b) (all-flat g f xs)

all-cond : {X : Type 0} (g : X → Bool) (v u : Bool) (x : X) (kept : List X) (failing : Bool) → g x ≡ u → list_all g kept ≡ not failing → list_all g (cond v (x ∷ kept) kept) ≡ not ((v && not u) || failing)
all-cond g true true x kept failing is rest = ap (λ b. b && list_all g kept) is ∙ rest
all-cond g true false x kept failing is rest = ap (λ b. b && list_all g kept) is
all-cond g false u x kept failing is rest = rest

-- all of those that pass another test pass exactly if none of them fails
pub all-filter : {X : Type 0} (g f : X → Bool) (xs : List X) → list_all g (filter f xs) ≡ not (list_any (λ x. f x && not (g x)) xs)
all-filter g f [] = refl
all-filter g f (x ∷ xs) = all-cond g (f x) (g x) x (filter f xs) (list_any (λ x. f x && not (g x)) xs) refl (all-filter g f xs)

not-or : (a b : Bool) → not (a || b) ≡ (not a && not b)
not-or true b = refl
not-or false b = refl

pub none-flat : {X Y : Type 0} (g : Y → Bool) (f : X → List Y) (xs : List X) → not (list_any g (flat_map f xs)) ≡ list_all (λ x. not (list_any g (f x))) xs
none-flat g f [] = refl
none-flat g f (x ∷ xs) =
    ap not (list_any-append g (f x) (flat_map f xs))
    ∙ not-or (list_any g (f x)) (list_any g (flat_map f xs))
    ∙ ap (λ b. not (list_any g (f x)) && b) (none-flat g f xs)
