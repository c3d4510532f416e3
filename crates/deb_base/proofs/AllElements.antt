-- What holds of each element of a list: of two lists one after the other, of a list's rest, and what is weaker.
use Rattle.std.proofs.Common.{ℕ, zero, suc, List, [], ◌∷◌, ◌++◌, drop}
use Rattle.std.specs.List.{AllByRecursion}

module _ {X : Type 0} (P : X → Type 0) where
  pub All-append : (xs ys : List X) → AllByRecursion P xs → AllByRecursion P ys → AllByRecursion P (xs ++ ys)
  All-append [] ys front back = back
  All-append (x ∷ xs) ys front back = (front.0, All-append xs ys front.1 back)

  pub All-drop : (k : ℕ) (xs : List X) → AllByRecursion P xs → AllByRecursion P (drop k xs)
  All-drop zero xs all = all
  All-drop (suc k) [] all = all
  All-drop (suc k) (x ∷ xs) all = All-drop k xs all.1

  pub All-weaker : (Q : X → Type 0) → ((x : X) → P x → Q x) → (xs : List X) → AllByRecursion P xs → AllByRecursion Q xs
  All-weaker Q weaker [] all = tt
  All-weaker Q weaker (x ∷ xs) all = (weaker x all.0, All-weaker Q weaker xs all.1)
