-- Slices of a list: joined, and cut again.
use Rattle.deb_syntax.proofs.Common.{◌≡◌, ℕ, ◌+◌, ◌-◌, ◌<◌, ◌≤◌, Bool, List, [], ◌∷◌, ◌++◌, length, take, drop, map, slice_index, slice_range, refl, ap, arith, rules, ◌||◌, list_any, same_lists, places}

-- a slice, an element and the slice after it are one slice
pub slice_range-join : (xs : List ℕ) (a b c : ℕ) → a ≤ b → b < c → c ≤ length xs → slice_range xs a b ++ slice_index xs b ∷ slice_range xs (b + 1) c ≡ slice_range xs a c
slice_range-join xs a b c ab bc le = same_lists _ _ (search (rules, places)) (λ k d h. grind (arith, places))

-- a prefix of a slice
pub take-slice_range : (xs : List ℕ) (a b n : ℕ) → n ≤ b - a → take n (slice_range xs a b) ≡ slice_range xs a (a + n)
take-slice_range xs a b n le = same_lists _ _ (search (rules, places)) (λ k d h. grind (arith, places))

-- what follows it
pub drop-slice_range : (xs : List ℕ) (a b n : ℕ) → drop n (slice_range xs a b) ≡ slice_range xs (a + n) b
drop-slice_range xs a b n = same_lists _ _ (search (rules, places)) (λ k d h. grind (arith, places))

-- two slices that meet
pub slice_range-parts : (xs : List ℕ) (a b c : ℕ) → a ≤ b → b ≤ c → c ≤ length xs → slice_range xs a b ++ slice_range xs b c ≡ slice_range xs a c
slice_range-parts xs a b c ab bc le = same_lists _ _ (search (rules, places)) (λ k d h. grind (arith, places))

-- a slice of the first elements
pub slice_range-front : (xs : List ℕ) (n a b : ℕ) → a ≤ b → b ≤ n → b ≤ length xs → slice_range (take n xs) a b ≡ slice_range xs a b
slice_range-front xs n a b ab bn le = same_lists _ _ (search (rules, places)) (λ k d h. grind (arith, places))

-- a slice, and what follows it
pub slice_range-rest : (xs : List ℕ) (a b : ℕ) → a ≤ b → b ≤ length xs → slice_range xs a b ++ drop b xs ≡ drop a xs
slice_range-rest xs a b ab le = same_lists _ _ (search (rules, places)) (λ k d h. grind (arith, places))

-- of two lists, what follows a part of the first
pub drop-front : (n : ℕ) (xs ys : List ℕ) → n ≤ length xs → drop n (xs ++ ys) ≡ drop n xs ++ ys
drop-front n xs ys le = same_lists _ _ (search (rules, places)) (λ k d h. grind (arith, places))

pub list_any-map : {X Y : Type 0} (p : X → Bool) (h : Y → X) (ys : List Y) → list_any p (map h ys) ≡ list_any (λ y. p (h y)) ys
list_any-map p h [] = refl
list_any-map p h (y ∷ ys) = ap (λ t. p (h y) || t) (list_any-map p h ys)

pub ruleset passing = (drop-slice_range)
