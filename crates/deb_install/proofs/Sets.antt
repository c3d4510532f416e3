-- Sets of numbers, and what they have of a list.
use Rattle.std.proofs.Common.{◌≡◌, ℕ, zero, suc, ◌+◌, ◌<◌, Bool, true, false, cond, ◌&&◌, ◌||◌, List, [], ◌∷◌, length, refl, sym, ap, ◌∙◌, arith}
use Rattle.std.specs.List.{list_any}
use Rattle.std.proofs.lemmas.Bool.{and_from, and_parts}
use Rattle.deb_index.specs.Listed.{Listed}
use Rattle.deb_index.specs.Named.{numbers_from}
use Rattle.deb_install.specs.Members.{members_from}
use Rattle.deb_install.proofs.Tests.{any-cond}

-- a member passes a test exactly if a number of those that pass is in the set
pub any-members : (set : ℕ → Bool) (test : Listed → Bool) (n : ℕ) (packages : List Listed) → list_any test (members_from set n packages) ≡ list_any set (numbers_from n test packages)
any-members set test n [] = refl
any-members set test n (p ∷ packages) =
    any-cond test (set n) p (members_from set (n + 1) packages)
    ∙ ap (λ b. (set n && test p) || b) (any-members set test (n + 1) packages)
    ∙ ap (λ b. b || list_any set (numbers_from (n + 1) test packages)) (exchanged (set n) (test p))
    ∙ sym (any-cond set (test p) n (numbers_from (n + 1) test packages))
  where
    exchanged : (a b : Bool) → (a && b) ≡ (b && a)
    exchanged true true = refl
    exchanged true false = refl
    exchanged false true = refl
    exchanged false false = refl

-- Sets that agree on the numbers of a list, counted from two numbers, have the same members of it.
pub members-shifted : {X : Type 0} (set other : ℕ → Bool) (n m : ℕ) (xs : List X) → ((i : ℕ) → i < length xs → set (n + i) ≡ other (m + i)) → members_from set n xs ≡ members_from other m xs
members-shifted set other n m [] same = refl
members-shifted set other n m (x ∷ xs) same =
    let here : n + zero ≡ n = omega arith in
    let also : m + zero ≡ m = omega arith in
    let first : set n ≡ other m = sym (ap set here) ∙ same zero (omega arith) ∙ ap other also in
    let more = members-shifted set other (n + 1) (m + 1) xs (λ i within.
    let there : n + suc i ≡ (n + 1) + i = omega arith in
    let then : m + suc i ≡ (m + 1) + i = omega arith in
    sym (ap set there) ∙ same (suc i) (omega (arith, within)) ∙ ap other then) in
    λ i. cond (first i) (x ∷ more i) (more i)

pub members-same : {X : Type 0} (set other : ℕ → Bool) (n : ℕ) (xs : List X) → ((i : ℕ) → i < length xs → set (n + i) ≡ other (n + i)) → members_from set n xs ≡ members_from other n xs
members-same set other n xs same = members-shifted set other n n xs same

-- the numbers of a list that are in the set pass a test
abbrev pub each_member : {X : Type 0} → (ℕ → Bool) → (ℕ → Bool) → ℕ → List X → Bool
each_member set test n [] = true
each_member set test n (x ∷ xs) =
    cond (set n) (test n && each_member set test (n + 1) xs) (each_member set test (n + 1) xs)

rest-passes : (v a b : Bool) → cond v (a && b) b ≡ true → b ≡ true
rest-passes true a b is = (and_parts a b is).1
rest-passes false a b is = is

pub member-passes : {X : Type 0} (set test : ℕ → Bool) (n : ℕ) (xs : List X) → each_member set test n xs ≡ true → (i : ℕ) → i < length xs → set (n + i) ≡ true → test (n + i) ≡ true
member-passes set test n [] all i within member = absurd (omega (arith, within))
member-passes set test n (x ∷ xs) all zero within member =
    let here : n + zero ≡ n = omega arith in
    let rest = each_member set test (n + 1) xs in
    ap test here ∙ (and_parts (test n) rest (sym (ap (λ v. cond v (test n && rest) rest) (sym (ap set here) ∙ member)) ∙ all)).0
member-passes set test n (x ∷ xs) all (suc i) within member =
    let there : n + suc i ≡ (n + 1) + i = omega arith in
    ap test there
    ∙ member-passes set test (n + 1) xs (rest-passes (set n) (test n) (each_member set test (n + 1) xs) all) i (omega (arith, within)) (sym (ap set there) ∙ member)

pub members-pass : {X : Type 0} (set test : ℕ → Bool) (n : ℕ) (xs : List X) → ((i : ℕ) → i < length xs → set (n + i) ≡ true → test (n + i) ≡ true) → each_member set test n xs ≡ true
members-pass set test n [] each = refl
members-pass set test n (x ∷ xs) each =
    let here : n + zero ≡ n = omega arith in
    go (set n) (λ is. sym (ap test here) ∙ each zero (omega arith) (ap set here ∙ is))
    (members-pass set test (n + 1) xs (λ i within member.
    let there : n + suc i ≡ (n + 1) + i = omega arith in
    sym (ap test there) ∙ each (suc i) (omega (arith, within)) (ap set there ∙ member)))
  where
    go : (v : Bool) → (v ≡ true → test n ≡ true) → each_member set test (n + 1) xs ≡ true → cond v (test n && each_member set test (n + 1) xs) (each_member set test (n + 1) xs) ≡ true
    go true first rest = and_from (test n) (each_member set test (n + 1) xs) (first refl) rest
    go false first rest = rest
