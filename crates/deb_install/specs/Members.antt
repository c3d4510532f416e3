-- The members of a set of listed packages. A set is a test of numbers, which are counted from 1, as
-- everywhere. This project's own.
use Rattle.std.specs.Prelude.{◌≡◌, ℕ, ◌+◌, ◌==◌, ◌≤◌, ◌||◌, Bool, true, false, cond, List, [], ◌∷◌, refl}
use Rattle.std.specs.List.{list_all, list_any}

-- the elements whose numbers are in the set, where the first element has this number
abbrev pub members_from : {X : Type 0} → (ℕ → Bool) → ℕ → List X → List X
members_from set n [] = []
members_from set n (x ∷ xs) =
    cond (set n) (x ∷ members_from set (n + 1) xs) (members_from set (n + 1) xs)

-- the elements whose numbers are in the set, in their order
abbrev pub members_of : {X : Type 0} → (ℕ → Bool) → List X → List X
members_of set xs = members_from set 1 xs

-- Each number of the set from 1 to this count has rows of which each has a number of the set, and
-- excludes no number of the set. The set may contain other numbers: they name no package.
pub record IsHealthyByRows (count : ℕ) (needs : ℕ → List (List ℕ)) (excludes : ℕ → List ℕ)
    (set : ℕ → Bool) : Type 0 where
  pub abundance : (number : ℕ) → 1 ≤ number → number ≤ count → set number ≡ true
      → list_all (list_any set) (needs number) ≡ true
  pub peace : (number : ℕ) → 1 ≤ number → number ≤ count → set number ≡ true
      → list_any set (excludes number) ≡ false

-- Such a set contains the number, and no number that names no package.
pub record HasHealthySet (count : ℕ) (needs : ℕ → List (List ℕ)) (excludes : ℕ → List ℕ)
    (number : ℕ) : Type 0 where
  pub set : ℕ → Bool
  pub contains : set number ≡ true
  pub listed : (other : ℕ) → set other ≡ true → (1 ≤ other) × (other ≤ count)
  pub healthy : IsHealthyByRows count needs excludes set

-- the first and the third; all, of a set with other numbers too; none; and from another number
abbrev odd : ℕ → Bool
odd number = (number == 1) || ((number == 3) || (number == 5))

abbrev three : List ℕ
three = 7 ∷ 8 ∷ 9 ∷ []

worked-members : (members_of odd three ≡ 7 ∷ 9 ∷ []) × (members_of (λ number. true) three ≡ three)
    × (members_of (λ number. false) three ≡ []) × (members_from odd 2 three ≡ 8 ∷ [])
worked-members = (refl, refl, refl, refl)
