-- The numbers of the packages that pass a test, as they are counted one after another.
use Rattle.std.proofs.Common.{◌≡◌, ℕ, suc, ◌+◌, ◌-◌, ◌<◌, ◌≤◌, ◌||◌, Bool, true, false, cond, List, [], ◌∷◌, ◌++◌, length, map, take, get_or, refl, sym, ap, ◌∙◌, arith, rules, tests}
use Rattle.std.specs.List.{All, AllByRecursion, list_any}
use Rattle.std.proofs.lemmas.Grind.{common_steps}
use Rattle.std.proofs.lemmas.List.{length-append, map-append, take_more}
use Rattle.std.proofs.lemmas.List.Folds.{list_any-append}
use Rattle.std.proofs.Math.Seq.{get_or-append_seam}
use Rattle.std.proofs.lemmas.List.Elements.{All-from_recursion, All-weaker}
use Rattle.deb_index.specs.Listed.{Listed}
use Rattle.deb_index.specs.Named.{numbers_from, numbers_of}
use Rattle.deb_index.specs.Maps.{is_last, put_last}

-- numbers count up from the first
within-one : (low m n : ℕ) (v : Bool) (rest : List ℕ) → low ≤ n → n < m → AllByRecursion (λ k. (low ≤ k) × (k < m)) rest → AllByRecursion (λ k. (low ≤ k) × (k < m)) (cond v (n ∷ rest) rest)
within-one low m n true rest above below all = ((above, below), all)
within-one low m n false rest above below all = all

pub numbers-within : (low n m : ℕ) (test : Listed → Bool) (packages : List Listed) → low ≤ n → n + length packages ≤ m → AllByRecursion (λ k. (low ≤ k) × (k < m)) (numbers_from n test packages)
numbers-within low n m test [] above below = tt
numbers-within low n m test (p ∷ packages) above below =
    within-one low m n (test p) (numbers_from (n + 1) test packages) above (omega (arith, below)) (numbers-within low (n + 1) m test packages (omega (arith, above)) (omega (arith, below)))

-- a number above all others isn't their last
not_last : (n : ℕ) (xs : List ℕ) → All (λ k. k < n) xs → is_last n xs ≡ false
not_last n [] below = refl
not_last n (x ∷ xs) below =
    let last : get_or (x ∷ xs) (length (x ∷ xs) - 1) 0 < n = below (length (x ∷ xs) - 1) 0 (omega arith) in
    search (rules, tests, last)

pub put_above : (n : ℕ) (xs : List ℕ) → All (λ k. k < n) xs → put_last n xs ≡ xs ++ n ∷ []
put_above n xs below = ap (λ v. cond v xs (xs ++ n ∷ [])) (not_last n xs below)

-- the numbers of a list with one more package
numbers_push : (n : ℕ) (test : Listed → Bool) (packages : List Listed) (p : Listed)
    → numbers_from n test (packages ++ p ∷ []) ≡ cond (test p) (numbers_from n test packages ++ (n + length packages) ∷ []) (numbers_from n test packages)
numbers_push n test [] p = elim (test p) as (λ v. cond v (n ∷ []) [] ≡ cond v ((n + 0) ∷ []) []) [
  | true ↦ ap (λ k. k ∷ []) (omega arith)
  | false ↦ refl
]
numbers_push n test (q ∷ packages) p =
    ap (λ l. cond (test q) (n ∷ l) l) (numbers_push (n + 1) test packages p)
    ∙ moved (test q) (test p) (numbers_from (n + 1) test packages) (n + 1 + length packages) (n + suc (length packages)) (omega arith)
  where
    moved : (v u : Bool) (l : List ℕ) (j k : ℕ) → j ≡ k
        → cond v (n ∷ cond u (l ++ j ∷ []) l) (cond u (l ++ j ∷ []) l) ≡ cond u (cond v (n ∷ l) l ++ k ∷ []) (cond v (n ∷ l) l)
    moved true true l j k e = ap (λ i. n ∷ (l ++ i ∷ [])) e
    moved true false l j k e = refl
    moved false true l j k e = ap (λ i. l ++ i ∷ []) e
    moved false false l j k e = refl

-- a package's number follows those of the packages before it
pub numbers_put : (k : ℕ) (test : Listed → Bool) (packages : List Listed) (p : Listed) → k ≡ length packages
    → numbers_of test (packages ++ p ∷ []) ≡ cond (test p) (put_last (k + 1) (numbers_of test packages)) (numbers_of test packages)
numbers_put k test packages p is =
    let own : 1 + length packages ≡ k + 1 = omega (arith, is) in
    let numbers = numbers_of test packages in
    let within = All-from_recursion (λ j. (1 ≤ j) × (j < k + 1)) numbers (numbers-within 1 1 (k + 1) test packages (omega arith) (omega (arith, is))) in
    let below = All-weaker (λ j. (1 ≤ j) × (j < k + 1)) (λ j. j < k + 1) (λ j h. h.1) numbers within in
    numbers_push 1 test packages p
    ∙ ap (λ j. cond (test p) (numbers_of test packages ++ j ∷ []) (numbers_of test packages)) own
    ∙ ap (λ l. cond (test p) l (numbers_of test packages)) (sym (put_above (k + 1) (numbers_of test packages) below))

-- the numbers of a front of a list with one more element, by its place
pub numbers_at : {X : Type 0} (view : X → Listed) (test : Listed → Bool) (xs : List X) (i : ℕ) (d : X) → i < length xs
    → numbers_of test (map view (take (i + 1) xs)) ≡ cond (test (view (get_or xs i d))) (put_last (i + 1) (numbers_of test (map view (take i xs)))) (numbers_of test (map view (take i xs)))
numbers_at view test xs i d within =
    let long : i ≡ length (map view (take i xs)) = grind (arith, common_steps) in
    ap (λ l. numbers_of test (map view l)) (take_more xs i d within)
    ∙ ap (numbers_of test) (map-append view (take i xs) (get_or xs i d ∷ []))
    ∙ numbers_put i test (map view (take i xs)) (view (get_or xs i d)) long

pub appended_last : (n : ℕ) (xs : List ℕ) → is_last n (xs ++ n ∷ []) ≡ true
appended_last n xs =
    let long : length (xs ++ n ∷ []) ≡ length xs + 1 = omega (arith, length-append xs (n ∷ [])) in
    let place : length (xs ++ n ∷ []) - 1 ≡ length xs = omega (arith, long) in
    let last : get_or (xs ++ n ∷ []) (length (xs ++ n ∷ []) - 1) 0 ≡ n = ap (λ k. get_or (xs ++ n ∷ []) k 0) place ∙ get_or-append_seam xs n [] 0 in
    search (rules, tests, long, last)

-- a number that is put twice is put once
put_twice : (n : ℕ) (xs : List ℕ) → put_last n (put_last n xs) ≡ put_last n xs
put_twice n xs = go (is_last n xs) refl
  where
    go : (v : Bool) → is_last n xs ≡ v → put_last n (put_last n xs) ≡ put_last n xs
    go true e = ap (put_last n) (ap (λ v. cond v xs (xs ++ n ∷ [])) e)
    go false e =
        let same : put_last n xs ≡ xs ++ n ∷ [] = ap (λ v. cond v xs (xs ++ n ∷ [])) e in
        ap (put_last n) same ∙ ap (λ v. cond v (xs ++ n ∷ []) ((xs ++ n ∷ []) ++ n ∷ [])) (appended_last n xs) ∙ sym same

-- a number is put if one of the elements so far asks for it
pub put_more : {X : Type 0} (test : X → Bool) (n : ℕ) (xs : List X) (i : ℕ) (d : X) (old now new : List ℕ) → i < length xs → now ≡ cond (list_any test (take i xs)) (put_last n old) old
    → new ≡ cond (test (get_or xs i d)) (put_last n now) now → new ≡ cond (list_any test (take (i + 1) xs)) (put_last n old) old
put_more test n xs i d old now new within now_is new_is =
    new_is ∙ go (list_any test (take i xs)) (test (get_or xs i d)) now_is
    ∙ ap (λ v. cond v (put_last n old) old) (sym (ap (list_any test) (take_more xs i d within) ∙ list_any-append test (take i xs) (get_or xs i d ∷ [])))
  where
    go : (u v : Bool) → now ≡ cond u (put_last n old) old → cond v (put_last n now) now ≡ cond (u || (v || false)) (put_last n old) old
    go true true e = ap (put_last n) e ∙ put_twice n old
    go true false e = e
    go false true e = ap (put_last n) e
    go false false e = e

-- a step of a loop that puts the number of each package
pub numbers_step : {X : Type 0} (view : X → Listed) (test : Listed → Bool) (xs ys : List X) (i : ℕ) (d : X) (old new : List ℕ) → i < length xs → xs ≡ ys → old ≡ numbers_of test (map view (take i ys))
    → new ≡ cond (test (view (get_or xs i d))) (put_last (i + 1) old) old → new ≡ numbers_of test (map view (take (i + 1) ys))
numbers_step view test xs ys i d old new within same old_is new_is =
    new_is
    ∙ ap (λ l. cond (test (view (get_or xs i d))) (put_last (i + 1) l) l) (old_is ∙ ap (λ l. numbers_of test (map view (take i l))) (sym same))
    ∙ sym (numbers_at view test xs i d within)
    ∙ ap (λ l. numbers_of test (map view (take (i + 1) l))) same
