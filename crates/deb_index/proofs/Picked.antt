-- Packages picked by their numbers.
use Rattle.std.proofs.Common.{◌≡◌, ℕ, ◌+◌, ◌-◌, ◌<◌, ◌≤◌, Bool, true, false, cond, ◌&&◌, List, [], ◌∷◌, ◌++◌, length, Some, append_assoc, refl, sym, ap, ◌∙◌, arith}
use Rattle.std.specs.List.{All, filter, flat_map, slice_get}
use Rattle.std.specs.Option.{option_map_or}
use Rattle.std.proofs.lemmas.List.{length_push}
use Rattle.std.proofs.lemmas.List.Elements.{All-from_recursion, All-weaker}
use Rattle.deb_index.specs.Listed.{Listed}
use Rattle.deb_index.specs.Named.{numbers_from, numbers_of, passes_at}
use Rattle.deb_index.specs.Reports.{passing_from, picked}
use Rattle.deb_index.proofs.Counted.{numbers-within}

pub behind : (front : List Listed) (p : Listed) (rest : List Listed) → slice_get (front ++ p ∷ rest) (length front) ≡ Some p
behind [] p rest = refl
behind (q ∷ front) p rest = behind front p rest

-- the package after a prefix has the number that follows
pub behind-front : (front : List Listed) (p : Listed) (rest : List Listed) (n : ℕ) → n ≡ length front + 1 → slice_get (front ++ p ∷ rest) (n - 1) ≡ Some p
behind-front front p rest n is = ap (slice_get (front ++ p ∷ rest)) (omega (arith, is)) ∙ behind front p rest

flat_map-cond : {X A : Type 0} (f : X → List A) (v : Bool) (x : X) (xs : List X) → flat_map f (cond v (x ∷ xs) xs) ≡ cond v (f x ++ flat_map f xs) (flat_map f xs)
flat_map-cond f true x xs = refl
flat_map-cond f false x xs = refl

picked-from : (test : Listed → Bool) (front rest : List Listed) (n : ℕ) → n ≡ length front + 1 → flat_map (picked (front ++ rest)) (numbers_from n test rest) ≡ passing_from n test rest
picked-from test front [] n is = refl
picked-from test front (p ∷ rest) n is =
    let all = front ++ p ∷ rest in
    let found = flat_map (picked all) (numbers_from (n + 1) test rest) in
    let long = length_push front p in
    let more = ap (λ l. flat_map (picked l) (numbers_from (n + 1) test rest)) (sym (append_assoc front (p ∷ []) rest)) ∙ picked-from test (front ++ p ∷ []) rest (n + 1) (omega (arith, is, long)) in
    flat_map-cond (picked all) (test p) n (numbers_from (n + 1) test rest)
    ∙ ap (λ o. cond (test p) (option_map_or (λ q. (n, q) ∷ []) o [] ++ found) found) (behind-front front p rest n is)
    ∙ ap (λ l. cond (test p) ((n, p) ∷ l) l) more

-- the packages of the numbers of those that pass a test
pub picked-all : (test : Listed → Bool) (packages : List Listed) → flat_map (picked packages) (numbers_of test packages) ≡ passing_from 1 test packages
picked-all test packages = picked-from test [] packages 1 refl

filter-cond : {X : Type 0} (f : X → Bool) (v : Bool) (x : X) (xs : List X) → filter f (cond v (x ∷ xs) xs) ≡ cond v (cond (f x) (x ∷ filter f xs) (filter f xs)) (filter f xs)
filter-cond f true x xs = refl
filter-cond f false x xs = refl

both : (v u : Bool) (n : ℕ) (xs : List ℕ) → cond v (cond u (n ∷ xs) xs) xs ≡ cond (v && u) (n ∷ xs) xs
both true u n xs = refl
both false u n xs = refl

filtered-from : (asked test : Listed → Bool) (front rest : List Listed) (n : ℕ) → n ≡ length front + 1 → filter (passes_at test (front ++ rest)) (numbers_from n asked rest) ≡ numbers_from n (λ p. asked p && test p) rest
filtered-from asked test front [] n is = refl
filtered-from asked test front (p ∷ rest) n is =
    let all = front ++ p ∷ rest in
    let kept = filter (passes_at test all) (numbers_from (n + 1) asked rest) in
    let long = length_push front p in
    let more = ap (λ l. filter (passes_at test l) (numbers_from (n + 1) asked rest)) (sym (append_assoc front (p ∷ []) rest)) ∙ filtered-from asked test (front ++ p ∷ []) rest (n + 1) (omega (arith, is, long)) in
    filter-cond (passes_at test all) (asked p) n (numbers_from (n + 1) asked rest)
    ∙ ap (λ o. cond (asked p) (cond (option_map_or test o false) (n ∷ kept) kept) kept) (behind-front front p rest n is)
    ∙ both (asked p) (test p) n kept
    ∙ ap (λ l. cond (asked p && test p) (n ∷ l) l) more

-- Of the numbers of packages that pass a test, those whose packages pass another one are those of
-- the packages that pass both.
pub filtered : (asked test : Listed → Bool) (packages : List Listed) → filter (passes_at test packages) (numbers_of asked packages) ≡ numbers_of (λ p. asked p && test p) packages
filtered asked test packages = filtered-from asked test [] packages 1 refl

-- each is the number of a package
pub numbers-listed : (test : Listed → Bool) (packages : List Listed) → All (λ k. (1 ≤ k) × (k ≤ length packages)) (numbers_of test packages)
numbers-listed test packages =
    All-weaker (λ k. (1 ≤ k) × (k < length packages + 1)) (λ k. (1 ≤ k) × (k ≤ length packages)) (λ k h. (h.0, omega (arith, h.1))) (numbers_of test packages)
    (All-from_recursion (λ k. (1 ≤ k) × (k < length packages + 1)) (numbers_of test packages) (numbers-within 1 1 (length packages + 1) test packages (omega arith) (omega arith)))
