-- The elements of a list that pass a test.
use Rattle.std.proofs.Common.{◌≡◌, Bool, true, false, cond, List, [], ◌∷◌, ◌++◌, map, refl, ap}
use Rattle.std.specs.List.{filter}

-- what is worked out of those that pass
abbrev pub picks : {Y : Type 0} → List (Bool × Y) → List Y
picks [] = []
picks (p ∷ ps) = cond p.0 (p.1 ∷ picks ps) (picks ps)

module _ {X : Type 0} (test : X → Bool) where
  -- a last one that passes, and one that doesn't
  pub filter-takes : (xs : List X) (x : X) → test x ≡ true → filter test (xs ++ x ∷ []) ≡ filter test xs ++ x ∷ []
  filter-takes [] x e = ap (λ t. cond t (x ∷ []) []) e
  filter-takes (y ∷ xs) x e = go (test y) (filter-takes xs x e)
    where
      go : (t : Bool) → filter test (xs ++ x ∷ []) ≡ filter test xs ++ x ∷ [] → cond t (y ∷ filter test (xs ++ x ∷ [])) (filter test (xs ++ x ∷ [])) ≡ cond t (y ∷ filter test xs) (filter test xs) ++ x ∷ []
      go true h = ap (λ l. y ∷ l) h
      go false h = h

  pub filter-skips : (xs : List X) (x : X) → test x ≡ false → filter test (xs ++ x ∷ []) ≡ filter test xs
  filter-skips [] x e = ap (λ t. cond t (x ∷ []) []) e
  filter-skips (y ∷ xs) x e = ap (λ l. cond (test y) (y ∷ l) l) (filter-skips xs x e)

  pub filter-all : ((x : X) → test x ≡ true) → (xs : List X) → filter test xs ≡ xs
  filter-all each [] = refl
  filter-all each (x ∷ xs) = rw (each x) (ap (λ l. x ∷ l) (filter-all each xs))

  pub picked : {Y : Type 0} (of : X → Y) (xs : List X) → map of (filter test xs) ≡ picks (map (λ x. (test x, of x)) xs)
  picked of [] = refl
  picked of (x ∷ xs) = go (test x) (picked of xs)
    where
      go : (t : Bool) → map of (filter test xs) ≡ picks (map (λ x. (test x, of x)) xs) → map of (cond t (x ∷ filter test xs) (filter test xs)) ≡ cond t (of x ∷ picks (map (λ x. (test x, of x)) xs)) (picks (map (λ x. (test x, of x)) xs))
      go true h = ap (λ l. of x ∷ l) h
      go false h = h
