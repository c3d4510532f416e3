-- Ascending lists of numbers, joined, sorted and with each kept once.
use Rattle.std.proofs.Common.{◌≡◌, ℕ, ◌+◌, ◌<◌, ◌≤◌, Bool, true, false, cond, ◌||◌, eqb, List, [], ◌∷◌, refl, sym, ap, ◌∙◌, inl, inr, arith}
use Rattle.std.specs.List.{AllByRecursion, dedup, dedup_from}
use Rattle.std.specs.List.Sorted.{IsPermutation, IsSorted, IsStrictlySortedBy}
use Rattle.std.specs.Ordering.{nat_cmp}
use Rattle.std.specs.declared.cmp.Ordering.TheVariants.{Less}
use Rattle.std.proofs.lemmas.Bool.{cases_Bool, cases_lt, eqb-true, false≢true}
use Rattle.std.proofs.lemmas.Cmp.{nat_cmp_total}
use Rattle.std.specs.Cmp.{unsigned_ties}
use Rattle.std.proofs.lemmas.List.Kept.{IsStrictlySortedBy-dedup}
use Rattle.std.proofs.lemmas.List.Sorted.{list_any-IsPermutation}
use Rattle.deb_index.specs.Listed.{Listed}
use Rattle.deb_index.specs.Named.{among, numbers_from, numbers_of}

or_again : (a b : Bool) → (a || b) ≡ (a || (a || b))
or_again true b = refl
or_again false b = refl

-- a list has what it had before each was kept once
among-dedup_from : (k y : ℕ) (xs : List ℕ) → among k (dedup_from eqb y xs) ≡ (eqb k y || among k xs)
among-dedup_from k y [] = refl
among-dedup_from k y (x ∷ xs) =
    elim (cases_Bool (eqb x y)) [
      | inl same ↦
          let is : x ≡ y = eqb-true x y same in
          rw same (among-dedup_from k y xs ∙ or_again (eqb k y) (among k xs) ∙ ap (λ z. eqb k y || (eqb k z || among k xs)) (sym is))
      | inr apart ↦ rw apart (ap (λ b. eqb k y || b) (among-dedup_from k x xs))
    ]

among-dedup : (k : ℕ) (xs : List ℕ) → among k (dedup eqb xs) ≡ among k xs
among-dedup k [] = refl
among-dedup k (x ∷ xs) = among-dedup_from k x xs

less : (x y : ℕ) → nat_cmp x y ≡ Less → x < y
less x y h = grind (arith, h)

pub eqb-itself : (k : ℕ) → eqb k k ≡ true
eqb-itself k = grind arith

eqb-apart : (j k : ℕ) → j < k → eqb j k ≡ false
eqb-apart j k below = grind (arith, below)

-- a number up to x isn't among greater ones
none-among : (k x : ℕ) (xs : List ℕ) → k ≤ x → AllByRecursion (λ y. nat_cmp x y ≡ Less) xs → among k xs ≡ false
none-among k x [] upto all = refl
none-among k x (y ∷ ys) upto all =
    let above = less x y all.0 in
    rw (eqb-apart k y (omega (arith, above, upto)), none-among k x ys upto all.1) refl

first-among : (y : ℕ) (ys : List ℕ) → among y (y ∷ ys) ≡ true
first-among y ys = ap (λ b. b || among y ys) (eqb-itself y)

below-among : (k y : ℕ) (ys : List ℕ) → k < y → IsStrictlySortedBy nat_cmp (y ∷ ys) → among k (y ∷ ys) ≡ false
unfolding IsStrictlySortedBy
below-among k y ys below sorted = rw (eqb-apart k y below, none-among k y ys (omega (arith, below)) sorted.0) refl

or_same : (e a b : Bool) → (e ≡ true → a ≡ b) → (e || a) ≡ (e || b) → a ≡ b
or_same true a b same h = same refl
or_same false a b same h = h

-- two ascending lists of the same numbers are one
pub one_ascending : (xs ys : List ℕ) → IsStrictlySortedBy nat_cmp xs → IsStrictlySortedBy nat_cmp ys → ((k : ℕ) → among k xs ≡ among k ys) → xs ≡ ys
unfolding IsStrictlySortedBy
one_ascending [] [] s t same = refl
one_ascending [] (y ∷ ys) s t same = absurd (false≢true (same y ∙ first-among y ys))
one_ascending (x ∷ xs) [] s t same = absurd (false≢true (sym (same x) ∙ first-among x xs))
one_ascending (x ∷ xs) (y ∷ ys) s t same =
    elim (cases_lt x y) [
      | inl below ↦ absurd (false≢true (sym (below-among x y ys below t) ∙ sym (same x) ∙ first-among x xs))
      | inr upto ↦
          elim (cases_lt y x) [
            | inl above ↦ absurd (false≢true (sym (below-among y x xs above s) ∙ same y ∙ first-among y ys))
            | inr equal ↦
                let is : x ≡ y = omega (arith, upto, equal) in
                let rest = one_ascending xs ys s.1 t.1 (λ k. or_same (eqb k y) (among k xs) (among k ys)
                (λ e. let at : k ≡ y = eqb-true k y e in none-among k x xs (omega (arith, at, is)) s.0 ∙ sym (none-among k y ys (omega (arith, at)) t.0))
                (ap (λ z. eqb k z || among k xs) (sym is) ∙ same k)) in
                ap (λ z. z ∷ xs) is ∙ ap (λ l. y ∷ l) rest
          ]
    ]

-- the numbers of packages ascend
above-one : (low n : ℕ) (v : Bool) (rest : List ℕ) → low < n → AllByRecursion (λ k. nat_cmp low k ≡ Less) rest → AllByRecursion (λ k. nat_cmp low k ≡ Less) (cond v (n ∷ rest) rest)
above-one low n true rest below all = (grind (arith, below), all)
above-one low n false rest below all = all

numbers-above : (low n : ℕ) (test : Listed → Bool) (packages : List Listed) → low < n → AllByRecursion (λ k. nat_cmp low k ≡ Less) (numbers_from n test packages)
numbers-above low n test [] below = tt
numbers-above low n test (p ∷ packages) below = above-one low n (test p) (numbers_from (n + 1) test packages) below (numbers-above low (n + 1) test packages (omega (arith, below)))

ascending-one : (n : ℕ) (v : Bool) (rest : List ℕ) → AllByRecursion (λ k. nat_cmp n k ≡ Less) rest → IsStrictlySortedBy nat_cmp rest → IsStrictlySortedBy nat_cmp (cond v (n ∷ rest) rest)
unfolding IsStrictlySortedBy
ascending-one n true rest all sorted = (all, sorted)
ascending-one n false rest all sorted = sorted

pub numbers-ascend : (n : ℕ) (test : Listed → Bool) (packages : List Listed) → IsStrictlySortedBy nat_cmp (numbers_from n test packages)
unfolding IsStrictlySortedBy
numbers-ascend n test [] = tt
numbers-ascend n test (p ∷ packages) = ascending-one n (test p) (numbers_from (n + 1) test packages) (numbers-above n (n + 1) test packages (omega arith)) (numbers-ascend (n + 1) test packages)

-- the numbers of the packages that pass one of two tests are those of both
either-one : (k n : ℕ) (f g : Bool) (fs gs both : List ℕ) → among k both ≡ (among k fs || among k gs)
    → among k (cond (f || g) (n ∷ both) both) ≡ (among k (cond f (n ∷ fs) fs) || among k (cond g (n ∷ gs) gs))
either-one k n true true fs gs both h = ap (λ b. eqb k n || b) h ∙ twice (eqb k n) (among k fs) (among k gs)
  where
    twice : (e a b : Bool) → (e || (a || b)) ≡ ((e || a) || (e || b))
    twice true a b = refl
    twice false a b = refl
either-one k n true false fs gs both h = ap (λ b. eqb k n || b) h ∙ nested (eqb k n) (among k fs) (among k gs)
  where
    nested : (e a b : Bool) → (e || (a || b)) ≡ ((e || a) || b)
    nested true a b = refl
    nested false a b = refl
either-one k n false true fs gs both h = ap (λ b. eqb k n || b) h ∙ past (eqb k n) (among k fs) (among k gs)
  where
    past : (e a b : Bool) → (e || (a || b)) ≡ (a || (e || b))
    past true true b = refl
    past true false b = refl
    past false a b = refl
either-one k n false false fs gs both h = h

pub among-either : (k n : ℕ) (f g : Listed → Bool) (packages : List Listed) → among k (numbers_from n (λ p. f p || g p) packages) ≡ (among k (numbers_from n f packages) || among k (numbers_from n g packages))
among-either k n f g [] = refl
among-either k n f g (p ∷ packages) = either-one k n (f p) (g p) (numbers_from (n + 1) f packages) (numbers_from (n + 1) g packages) (numbers_from (n + 1) (λ p. f p || g p) packages) (among-either k (n + 1) f g packages)

pub none-numbered : (n : ℕ) (packages : List Listed) → numbers_from n (λ p. false) packages ≡ []
none-numbered n [] = refl
none-numbered n (p ∷ packages) = none-numbered (n + 1) packages

-- numbers that are those of the packages that pass a test are, sorted and each kept once, their list
pub merged : (joined sorted : List ℕ) (test : Listed → Bool) (packages : List Listed) → IsPermutation joined sorted → IsSorted nat_cmp sorted
    → ((k : ℕ) → among k joined ≡ among k (numbers_of test packages)) → dedup eqb sorted ≡ numbers_of test packages
merged joined sorted test packages moved sorts same =
    one_ascending (dedup eqb sorted) (numbers_of test packages) (IsStrictlySortedBy-dedup nat_cmp_total unsigned_ties sorted sorts) (numbers-ascend 1 test packages)
    (λ k. among-dedup k sorted ∙ sym (list_any-IsPermutation (eqb k) joined sorted moved) ∙ same k)
