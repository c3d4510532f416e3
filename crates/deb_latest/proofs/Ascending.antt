-- Ascending lists of numbers.
use Rattle.std.proofs.Common.{◌≡◌, ℕ, ◌+◌, ◌<◌, ◌≤◌, Bool, true, false, cond, ◌||◌, eqb, List, [], ◌∷◌, map, refl, sym, ap, ◌∙◌, inl, inr, arith}
use Rattle.std.specs.List.{AllByRecursion, dedup, dedup_from, filter, list_any}
use Rattle.std.specs.List.Sorted.{IsPermutation, IsSorted, IsStrictlySortedBy}
use Rattle.std.specs.Ordering.{nat_cmp}
use Rattle.std.specs.declared.cmp.Ordering.TheVariants.{Less}
use Rattle.std.proofs.lemmas.Bool.{cases_Bool, cases_lt, eqb-true, false≢true}
use Rattle.std.proofs.lemmas.Cmp.{nat_cmp_total}
use Rattle.std.specs.Cmp.{unsigned_ties}
use Rattle.std.proofs.lemmas.List.Kept.{IsStrictlySortedBy-dedup}
use Rattle.std.proofs.lemmas.List.Sorted.{list_any-IsPermutation}
use Rattle.deb_latest.specs.BestOf.{AreNumbered}
use Rattle.deb_latest.specs.Winning.{Entry}

abbrev pub among : ℕ → List ℕ → Bool
among k numbers = list_any (eqb k) numbers

or_again : (a b : Bool) → (a || b) ≡ (a || (a || b))
or_again true b = refl
or_again false b = refl

-- a list has what it had before each was kept once
among-dedup_from : (k y : ℕ) (xs : List ℕ) → among k (dedup_from eqb y xs) ≡ (eqb k y || among k xs)
among-dedup_from k y [] = refl
among-dedup_from k y (x ∷ xs) =
    elim (cases_Bool (eqb x y)) [
      | inl same ↦
          let is : x ≡ y = eqb-true x y same in
          rw same (among-dedup_from k y xs ∙ or_again (eqb k y) (among k xs) ∙ ap (λ z. eqb k y || (eqb k z || among k xs)) (sym is))
      | inr apart ↦ rw apart (ap (λ b. eqb k y || b) (among-dedup_from k x xs))
    ]

among-dedup : (k : ℕ) (xs : List ℕ) → among k (dedup eqb xs) ≡ among k xs
among-dedup k [] = refl
among-dedup k (x ∷ xs) = among-dedup_from k x xs

less : (x y : ℕ) → nat_cmp x y ≡ Less → x < y
less x y h = grind (arith, h)

pub eqb-itself : (k : ℕ) → eqb k k ≡ true
eqb-itself k = grind arith

eqb-apart : (j k : ℕ) → j < k → eqb j k ≡ false
eqb-apart j k below = grind (arith, below)

-- a number up to x isn't among greater ones
pub none-among : (k x : ℕ) (xs : List ℕ) → k ≤ x → AllByRecursion (λ y. nat_cmp x y ≡ Less) xs → among k xs ≡ false
none-among k x [] upto all = refl
none-among k x (y ∷ ys) upto all =
    let above = less x y all.0 in
    rw (eqb-apart k y (omega (arith, above, upto)), none-among k x ys upto all.1) refl

first-among : (y : ℕ) (ys : List ℕ) → among y (y ∷ ys) ≡ true
first-among y ys = ap (λ b. b || among y ys) (eqb-itself y)

below-among : (k y : ℕ) (ys : List ℕ) → k < y → IsStrictlySortedBy nat_cmp (y ∷ ys) → among k (y ∷ ys) ≡ false
unfolding IsStrictlySortedBy
below-among k y ys below sorted = rw (eqb-apart k y below, none-among k y ys (omega (arith, below)) sorted.0) refl

or_same : (e a b : Bool) → (e ≡ true → a ≡ b) → (e || a) ≡ (e || b) → a ≡ b
or_same true a b same h = same refl
or_same false a b same h = h

-- two ascending lists of the same numbers are one
one_ascending : (xs ys : List ℕ) → IsStrictlySortedBy nat_cmp xs → IsStrictlySortedBy nat_cmp ys → ((k : ℕ) → among k xs ≡ among k ys) → xs ≡ ys
unfolding IsStrictlySortedBy
one_ascending [] [] s t same = refl
one_ascending [] (y ∷ ys) s t same = absurd (false≢true (same y ∙ first-among y ys))
one_ascending (x ∷ xs) [] s t same = absurd (false≢true (sym (same x) ∙ first-among x xs))
one_ascending (x ∷ xs) (y ∷ ys) s t same =
    elim (cases_lt x y) [
      | inl below ↦ absurd (false≢true (sym (below-among x y ys below t) ∙ sym (same x) ∙ first-among x xs))
      | inr upto ↦
          elim (cases_lt y x) [
            | inl above ↦ absurd (false≢true (sym (below-among y x xs above s) ∙ same y ∙ first-among y ys))
            | inr equal ↦
                let is : x ≡ y = omega (arith, upto, equal) in
                let rest = one_ascending xs ys s.1 t.1 (λ k. or_same (eqb k y) (among k xs) (among k ys)
                (λ e. let at : k ≡ y = eqb-true k y e in none-among k x xs (omega (arith, at, is)) s.0 ∙ sym (none-among k y ys (omega (arith, at)) t.0))
                (ap (λ z. eqb k z || among k xs) (sym is) ∙ same k)) in
                ap (λ z. z ∷ xs) is ∙ ap (λ l. y ∷ l) rest
          ]
    ]

-- the numbers of paragraphs that are numbered one after another ascend
abbrev pub numbers : (Entry → Bool) → List Entry → List ℕ
numbers p entries = map (λ e. e.number) (filter p entries)

above : (j k : ℕ) → j < k → nat_cmp j k ≡ Less
above j k h = grind (arith, h)

pub numbers-above : (low n : ℕ) (p : Entry → Bool) (entries : List Entry) → low ≤ n → AreNumbered n entries → AllByRecursion (λ k. nat_cmp low k ≡ Less) (numbers p entries)
numbers-above low n p [] below is = tt
numbers-above low n p (e ∷ entries) below is = go (p e) (above low e.number (omega (arith, below, is.0))) (numbers-above low (n + 1) p entries (omega (arith, below)) is.1)
  where
    go : (v : Bool) → nat_cmp low e.number ≡ Less → AllByRecursion (λ k. nat_cmp low k ≡ Less) (numbers p entries) → AllByRecursion (λ k. nat_cmp low k ≡ Less) (map (λ e. e.number) (cond v (e ∷ filter p entries) (filter p entries)))
    go true one rest = (one, rest)
    go false one rest = rest

pub numbers-ascend : (n : ℕ) (p : Entry → Bool) (entries : List Entry) → AreNumbered n entries → IsStrictlySortedBy nat_cmp (map (λ e. e.number) (filter p entries))
unfolding IsStrictlySortedBy
numbers-ascend n p [] is = tt
numbers-ascend n p (e ∷ entries) is = go (p e) (numbers-above e.number (n + 1) p entries (omega (arith, is.0)) is.1) (numbers-ascend (n + 1) p entries is.1)
  where
    go : (v : Bool) → AllByRecursion (λ k. nat_cmp e.number k ≡ Less) (numbers p entries) → IsStrictlySortedBy nat_cmp (numbers p entries) → IsStrictlySortedBy nat_cmp (map (λ e. e.number) (cond v (e ∷ filter p entries) (filter p entries)))
    go true one rest = (one, rest)
    go false one rest = rest

-- numbers that are those of an ascending list are, sorted and each kept once, that list
pub merged : (joined sorted ascending : List ℕ) → IsPermutation joined sorted → IsSorted nat_cmp sorted → IsStrictlySortedBy nat_cmp ascending
    → ((k : ℕ) → list_any (eqb k) joined ≡ list_any (eqb k) ascending) → dedup eqb sorted ≡ ascending
merged joined sorted ascending moved sorts ascends same =
    one_ascending (dedup eqb sorted) ascending (IsStrictlySortedBy-dedup nat_cmp_total unsigned_ties sorted sorts) ascends
    (λ k. among-dedup k sorted ∙ sym (list_any-IsPermutation (eqb k) joined sorted moved) ∙ same k)
