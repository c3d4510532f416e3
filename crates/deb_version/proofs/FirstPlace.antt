-- What holds of the first element that passes a test, and of the elements before it.
use Rattle.deb_version.proofs.Common.{◌≡◌, suc, ◌+◌, Bool, true, false, cond, not, Some, None, List, [], ◌∷◌, length, take, drop, position, unwrap_or, nat_lt, ap, ◌∙◌, inl, inr, arith, AllByRecursion, position_or_len, cases_Bool, nat_tests, prefix_len-le-length}

-- the first index that passes, or the length: both readings of it
pub first_place : {X : Type 0} (p : X → Bool) (xs : List X) → unwrap_or (position p xs) (length xs) ≡ position_or_len p xs
first_place p xs =
    let within = prefix_len-le-length (λ x. not (p x)) xs in
    elim (cases_Bool (nat_lt (position_or_len p xs) (length xs))) [
      | inl inside ↦ ap (λ v. unwrap_or (cond v (Some (position_or_len p xs)) None) (length xs)) inside
      | inr outside ↦ ap (λ v. unwrap_or (cond v (Some (position_or_len p xs)) None) (length xs)) outside ∙ grind (arith, nat_tests)
    ]

-- a list that is empty, or whose first element passes
abbrev pub StartsWith : {X : Type 0} → (X → Bool) → List X → Type 0
StartsWith p [] = Unit {0}
StartsWith p (x ∷ xs) = p x ≡ true

module _ {X : Type 0} (p : X → Bool) where
  -- what holds of each element that fails holds of those before the index
  pub before_place : (P : X → Type 0) → ((x : X) → p x ≡ false → P x) → (xs : List X) → AllByRecursion P (take (position_or_len p xs) xs)
  before_place P each [] = tt
  before_place P each (x ∷ xs) = elim (cases_Bool (p x)) [
    | inl passes ↦ rw passes tt
    | inr fails ↦
        let more : 1 + position_or_len p xs ≡ suc (position_or_len p xs) = omega arith in
        rw (fails, more) (each x fails, before_place P each xs)
  ]

  pub from_place : (xs : List X) → StartsWith p (drop (position_or_len p xs) xs)
  from_place [] = tt
  from_place (x ∷ xs) = elim (cases_Bool (p x)) [
    | inl passes ↦ rw passes passes
    | inr fails ↦
        let more : 1 + position_or_len p xs ≡ suc (position_or_len p xs) = omega arith in
        rw (fails, more) (from_place xs)
  ]

  -- the first index that passes, at the first element and after it
  pub place_here : (x : X) (xs : List X) → p x ≡ true → position_or_len p (x ∷ xs) ≡ 0
  place_here x xs e = ap (λ v. cond (not v) (1 + position_or_len p xs) 0) e

  pub place_later : (x : X) (xs : List X) → p x ≡ false → position_or_len p (x ∷ xs) ≡ suc (position_or_len p xs)
  place_later x xs e = ap (λ v. cond (not v) (1 + position_or_len p xs) 0) e ∙ omega arith
