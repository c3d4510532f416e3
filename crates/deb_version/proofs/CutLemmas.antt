-- A list cut at the first or at the last element that passes a test.
use Rattle.deb_version.proofs.Common.{◌≡◌, ℕ, suc, ◌+◌, ◌-◌, Bool, true, false, not, cond, ◌||◌, List, [], ◌∷◌, ◌++◌, length, take, drop, refl, sym, ap, ◌∙◌, reverse, arith, append_assoc, list_any, before_first, after_first, before_last, after_last, position_or_len, prefix_len, suffix_len, take_at, drop_at, reverse-append, length-append, length-reverse, length_push, list_any-append}
use Rattle.std.proofs.lemmas.Bool.{or_parts}

module _ {X : Type 0} (p : X → Bool) where
  -- what follows an element that passes, and before one, where no element before it passes
  position_or_len-at : (a : List X) (y : X) (b : List X) → list_any p a ≡ false → p y ≡ true → position_or_len p (a ++ y ∷ b) ≡ length a
  position_or_len-at [] y b none passes = ap (λ v. cond (not v) (1 + position_or_len p b) 0) passes
  position_or_len-at (x ∷ a) y b none passes =
      ap (λ v. cond (not v) (1 + position_or_len p (a ++ y ∷ b)) 0) (or_parts (p x) (list_any p a) none).0 ∙ ap (λ n. 1 + n) (position_or_len-at a y b (or_parts (p x) (list_any p a) none).1 passes) ∙ one_more (length a)
    where
      one_more : (n : ℕ) → 1 + n ≡ suc n
      one_more n = omega arith

  pub before_first-at : (a : List X) (y : X) (b : List X) → list_any p a ≡ false → p y ≡ true → before_first p (a ++ y ∷ b) ≡ a
  before_first-at a y b none passes = ap (λ n. take n (a ++ y ∷ b)) (position_or_len-at a y b none passes) ∙ take_at a (y ∷ b) (length a) refl

  drop_past : (a : List X) (y : X) (b : List X) (n : ℕ) → n ≡ length a + 1 → drop n (a ++ y ∷ b) ≡ b
  drop_past a y b n e = ap (drop n) (sym (append_assoc a (y ∷ []) b)) ∙ drop_at (a ++ y ∷ []) b n (length_push a y ∙ sym e)

  pub after_first-at : (a : List X) (y : X) (b : List X) → list_any p a ≡ false → p y ≡ true → after_first p (a ++ y ∷ b) ≡ b
  after_first-at a y b none passes = drop_past a y b _ (ap (λ n. n + 1) (position_or_len-at a y b none passes))

  pub list_any-at : (a : List X) (y : X) (b : List X) → p y ≡ true → list_any p (a ++ y ∷ b) ≡ true
  list_any-at [] y b passes = ap (λ v. v || list_any p b) passes
  list_any-at (x ∷ a) y b passes = ap (λ v. p x || v) (list_any-at a y b passes) ∙ or_true (p x)
    where
      or_true : (v : Bool) → (v || true) ≡ true
      or_true true = refl
      or_true false = refl

  list_any-reverse : (b : List X) → list_any p b ≡ false → list_any p (reverse b) ≡ false
  list_any-reverse [] none = refl
  list_any-reverse (x ∷ b) none =
      ap (list_any p) (reverse-append (x ∷ []) b) ∙ list_any-append p (reverse b) (x ∷ []) ∙ ap (λ v. v || (p x || false)) (list_any-reverse b (or_parts (p x) (list_any p b) none).1)
      ∙ ap (λ v. v || false) (or_parts (p x) (list_any p b) none).0

  suffix_len-at : (a : List X) (y : X) (b : List X) → list_any p b ≡ false → p y ≡ true → suffix_len (λ x. not (p x)) (a ++ y ∷ b) ≡ length b
  suffix_len-at a y b none passes = ap (prefix_len (λ x. not (p x))) turned ∙ position_or_len-at (reverse b) y (reverse a) (list_any-reverse b none) passes ∙ length-reverse b
    where
      turned : reverse (a ++ y ∷ b) ≡ reverse b ++ y ∷ reverse a
      turned = reverse-append a (y ∷ b) ∙ ap (λ l. l ++ reverse a) (reverse-append (y ∷ []) b) ∙ append_assoc (reverse b) (y ∷ []) (reverse a)

  pub before_last-at : (a : List X) (y : X) (b : List X) → list_any p b ≡ false → p y ≡ true → before_last p (a ++ y ∷ b) ≡ a
  before_last-at a y b none passes = take_at a (y ∷ b) _ place
    where
      place : length a ≡ length (a ++ y ∷ b) - suffix_len (λ x. not (p x)) (a ++ y ∷ b) - 1
      place = let whole : length (a ++ y ∷ b) ≡ length a + length (y ∷ b) = length-append a (y ∷ b) in let after : suffix_len (λ x. not (p x)) (a ++ y ∷ b) ≡ length b = suffix_len-at a y b none passes in omega arith

  pub after_last-at : (a : List X) (y : X) (b : List X) → list_any p b ≡ false → p y ≡ true → after_last p (a ++ y ∷ b) ≡ b
  after_last-at a y b none passes = drop_past a y b _ place
    where
      place : length (a ++ y ∷ b) - suffix_len (λ x. not (p x)) (a ++ y ∷ b) ≡ length a + 1
      place = let whole : length (a ++ y ∷ b) ≡ length a + length (y ∷ b) = length-append a (y ∷ b) in let after : suffix_len (λ x. not (p x)) (a ++ y ∷ b) ≡ length b = suffix_len-at a y b none passes in omega arith

  -- a list with an element that passes has a first one
  split_first : (xs : List X) → list_any p xs ≡ true → (a : List X) × (y : X) × (b : List X) × (xs ≡ a ++ y ∷ b) × (list_any p a ≡ false) × (p y ≡ true)
  split_first [] some = absurd cc
  split_first (x ∷ xs) some =
      elim (p x) as (λ v. p x ≡ v → (v || list_any p xs) ≡ true → (a : List X) × (y : X) × (b : List X) × (x ∷ xs ≡ a ++ y ∷ b) × (list_any p a ≡ false) × (p y ≡ true)) [
        | true ↦ λ e h. ([], x, xs, refl, refl, e)
        | false ↦ λ e h. let s = split_first xs h in (x ∷ s.0, s.1, s.2, ap (λ l. x ∷ l) s.3, ap (λ v. v || list_any p s.0) e ∙ s.4, s.5)
      ] refl some

  -- and a last one
  split_last : (xs : List X) → list_any p xs ≡ true → (a : List X) × (y : X) × (b : List X) × (xs ≡ a ++ y ∷ b) × (list_any p b ≡ false) × (p y ≡ true)
  split_last [] some = absurd cc
  split_last (x ∷ xs) some =
      elim (list_any p xs) as (λ v. list_any p xs ≡ v → (p x || v) ≡ true → (a : List X) × (y : X) × (b : List X) × (x ∷ xs ≡ a ++ y ∷ b) × (list_any p b ≡ false) × (p y ≡ true)) [
        | true ↦ λ e h. let s = split_last xs e in (x ∷ s.0, s.1, s.2, ap (λ l. x ∷ l) s.3, s.4, s.5)
        | false ↦ λ e h. ([], x, xs, refl, e, sym (or_false (p x)) ∙ h)
      ] refl some
    where
      or_false : (v : Bool) → (v || false) ≡ v
      or_false true = refl
      or_false false = refl

  -- a list is what precedes the first element that passes, that element, and what is after it
  pub join_first : (xs : List X) → list_any p xs ≡ true → (y : X) × (p y ≡ true) × (xs ≡ before_first p xs ++ y ∷ after_first p xs)
  join_first xs some =
      let s = split_first xs some in
      let before : before_first p xs ≡ s.0 = ap (before_first p) s.3 ∙ before_first-at s.0 s.1 s.2 s.4 s.5 in
      let after : after_first p xs ≡ s.2 = ap (after_first p) s.3 ∙ after_first-at s.0 s.1 s.2 s.4 s.5 in
      (s.1, s.5, s.3 ∙ ap (λ l. l ++ s.1 ∷ s.2) (sym before) ∙ ap (λ l. before_first p xs ++ s.1 ∷ l) (sym after))

  -- the same at the last one
  pub join_last : (xs : List X) → list_any p xs ≡ true → (y : X) × (p y ≡ true) × (xs ≡ before_last p xs ++ y ∷ after_last p xs)
  join_last xs some =
      let s = split_last xs some in
      let before : before_last p xs ≡ s.0 = ap (before_last p) s.3 ∙ before_last-at s.0 s.1 s.2 s.4 s.5 in
      let after : after_last p xs ≡ s.2 = ap (after_last p) s.3 ∙ after_last-at s.0 s.1 s.2 s.4 s.5 in
      (s.1, s.5, s.3 ∙ ap (λ l. l ++ s.1 ∷ s.2) (sym before) ∙ ap (λ l. before_last p xs ++ s.1 ∷ l) (sym after))

  -- after the last one no element passes
  pub none_after_last : (xs : List X) → list_any p xs ≡ true → list_any p (after_last p xs) ≡ false
  none_after_last xs some =
      let s = split_last xs some in
      ap (list_any p) (ap (after_last p) s.3 ∙ after_last-at s.0 s.1 s.2 s.4 s.5) ∙ s.4
