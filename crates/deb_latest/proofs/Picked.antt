-- What is chosen by the numbers of paragraphs that pass a test: as many as these, one for each.
use Rattle.std.proofs.Common.{◌≡◌, ℕ, suc, ◌+◌, ◌<◌, ◌||◌, Bool, true, false, cond, eqb, List, [], ◌∷◌, length, map, refl, ap, ◌∙◌, arith}
use Rattle.std.specs.List.{filter, list_any}
use Rattle.deb_latest.specs.BestOf.{AreNumbered}
use Rattle.deb_latest.specs.Winning.{Entry}
use Rattle.deb_latest.specs.Written.{chosen_from}
use Rattle.deb_latest.proofs.Ascending.{among, eqb-itself, none-among, numbers, numbers-above}

-- those of a list beside the paragraphs that pass
abbrev pub picked : {X : Type 0} → (Entry → Bool) → List Entry → List X → List X
picked p [] xs = []
picked p (e ∷ entries) [] = []
picked p (e ∷ entries) (x ∷ xs) = cond (p e) (x ∷ picked p entries xs) (picked p entries xs)

pub length-picked : {X : Type 0} (p : Entry → Bool) (entries : List Entry) (xs : List X) → length xs ≡ length entries → length (picked p entries xs) ≡ length (filter p entries)
length-picked p [] xs same = refl
length-picked p (e ∷ entries) [] same = absurd (cc)
length-picked p (e ∷ entries) (x ∷ xs) same = go (p e) (length-picked p entries xs (omega (arith, same)))
  where
    go : (t : Bool) → length (picked p entries xs) ≡ length (filter p entries) → length (cond t (x ∷ picked p entries xs) (picked p entries xs)) ≡ length (cond t (e ∷ filter p entries) (filter p entries))
    go true is = ap suc is
    go false is = is

apart : (k j : ℕ) → j < k → eqb k j ≡ false
apart k j above = grind (arith, above)

-- whether a paragraph's number is among those, by whether it passes
module _ (p : Entry → Bool) (n : ℕ) (e : Entry) (entries : List Entry) (numbered : AreNumbered n (e ∷ entries)) where
  first_among : among (n + 1) (numbers p (e ∷ entries)) ≡ p e
  first_among = go (p e)
    where
      none : among (n + 1) (numbers p entries) ≡ false
      none = none-among (n + 1) (n + 1) (numbers p entries) (omega arith) (numbers-above (n + 1) (n + 1) p entries (omega arith) numbered.1)

      go : (t : Bool) → among (n + 1) (map (λ e. e.number) (cond t (e ∷ filter p entries) (filter p entries))) ≡ t
      go true = ap (λ k. eqb (n + 1) k || among (n + 1) (numbers p entries)) numbered.0 ∙ ap (λ b. b || among (n + 1) (numbers p entries)) (eqb-itself (n + 1))
      go false = none

  later_among : (k : ℕ) → n + 1 < k → among k (numbers p (e ∷ entries)) ≡ among k (numbers p entries)
  later_among k above = go (p e)
    where
      go : (t : Bool) → among k (map (λ e. e.number) (cond t (e ∷ filter p entries) (filter p entries))) ≡ among k (numbers p entries)
      go true = ap (λ j. eqb k j || among k (numbers p entries)) numbered.0 ∙ ap (λ b. b || among k (numbers p entries)) (apart k (n + 1) above)
      go false = refl

pub chosen-picked : {X : Type 0} (all : List ℕ) (n : ℕ) (p : Entry → Bool) (entries : List Entry) (xs : List X) → AreNumbered n entries → length xs ≡ length entries
    → ((k : ℕ) → n < k → list_any (eqb k) all ≡ list_any (eqb k) (map (λ e. e.number) (filter p entries))) → chosen_from all n xs ≡ picked p entries xs
chosen-picked all n p [] [] numbered same is = refl
chosen-picked all n p [] (x ∷ xs) numbered same is = absurd (cc)
chosen-picked all n p (e ∷ entries) [] numbered same is = absurd (cc)
chosen-picked all n p (e ∷ entries) (x ∷ xs) numbered same is =
    ap (λ t. cond t (x ∷ chosen_from all (n + 1) xs) (chosen_from all (n + 1) xs)) (is (n + 1) (omega arith) ∙ first_among p n e entries numbered)
    ∙ ap (λ l. cond (p e) (x ∷ l) l) (chosen-picked all (n + 1) p entries xs numbered.1 (omega (arith, same)) (λ k above. is k (omega (arith, above)) ∙ later_among p n e entries numbered k above))
