-- Tests of packages and their numbers.
use Rattle.std.proofs.Common.{◌≡◌, ℕ, ◌+◌, ◌-◌, ◌≤◌, nat_eq, if◌then◌else◌, slice_get, Bool, true, false, cond, ◌&&◌, ◌||◌, eqb, List, [], ◌∷◌, ◌++◌, length, Option, None, Some, append_assoc, refl, sym, ap, ◌∙◌, arith}
use Rattle.std.specs.List.{list_any}
use Rattle.std.specs.Option.{option_map_or}
use Rattle.std.proofs.lemmas.List.{length_push}
use Rattle.deb_index.specs.Crowds.{any_numbered}
use Rattle.deb_index.specs.Listed.{Listed}
use Rattle.deb_index.specs.Named.{among, numbers_from, numbers_of, package_at, passes_at}
use Rattle.deb_index.proofs.Picked.{behind-front}
use Rattle.deb_index.proofs.SomeMeets.{four}

-- tests that answer alike
pub numbered-same : (f g : ℕ → Listed → Bool) → ((n : ℕ) (p : Listed) → f n p ≡ g n p) → (n : ℕ) (packages : List Listed) → any_numbered f n packages ≡ any_numbered g n packages
numbered-same f g same n [] = refl
numbered-same f g same n (p ∷ packages) = ap (λ b. b || any_numbered f (n + 1) packages) (same n p) ∙ ap (λ b. g n p || b) (numbered-same f g same (n + 1) packages)

pub from-one : (n : ℕ) → 1 ≤ n → nat_eq n 0 ≡ false
from-one n some = grind (arith, some)

-- the package of a number is the one at which the test is
pub at-front : (front : List Listed) (p : Listed) (rest : List Listed) (n : ℕ) → n ≡ length front + 1 → package_at n (front ++ p ∷ rest) ≡ Some p
at-front front p rest n is = ap (λ b. if b then None else slice_get (front ++ p ∷ rest) (n - 1)) (from-one n (omega (arith, is))) ∙ behind-front front p rest n is

module _ (test : ℕ → Option Listed → Listed → Bool) where
  located-from : (front rest : List Listed) (n : ℕ) → n ≡ length front + 1 → any_numbered (λ k p. test k (package_at k (front ++ rest)) p) n rest ≡ any_numbered (λ k p. test k (Some p) p) n rest
  located-from front [] n is = refl
  located-from front (p ∷ rest) n is =
      let long = length_push front p in
      ap (λ o. test n o p || any_numbered (λ k q. test k (package_at k (front ++ p ∷ rest)) q) (n + 1) rest) (at-front front p rest n is)
      ∙ ap (λ l. test n (Some p) p || any_numbered (λ k q. test k (package_at k l) q) (n + 1) rest) (sym (append_assoc front (p ∷ []) rest))
      ∙ ap (λ b. test n (Some p) p || b) (located-from (front ++ p ∷ []) rest (n + 1) (omega (arith, is, long)))

  pub located : (packages : List Listed) → any_numbered (λ k p. test k (package_at k packages) p) 1 packages ≡ any_numbered (λ k p. test k (Some p) p) 1 packages
  located packages = located-from [] packages 1 refl

-- either of two tests
pub numbered-either : (f g : ℕ → Listed → Bool) (n : ℕ) (packages : List Listed) → (any_numbered f n packages || any_numbered g n packages) ≡ any_numbered (λ k p. f k p || g k p) n packages
numbered-either f g n [] = refl
numbered-either f g n (p ∷ packages) = four (f n p) (any_numbered f (n + 1) packages) (g n p) (any_numbered g (n + 1) packages) ∙ ap (λ b. (f n p || g n p) || b) (numbered-either f g (n + 1) packages)

-- a test of the packages whose numbers are asked
module _ (asked : Listed → Bool) (test : ℕ → Listed → Bool) where
  any-cond : (f : ℕ → Bool) (v : Bool) (n : ℕ) (numbers : List ℕ) → list_any f (cond v (n ∷ numbers) numbers) ≡ ((v && f n) || list_any f numbers)
  any-cond f true n numbers = refl
  any-cond f false n numbers = refl

  asked-from : (front rest : List Listed) (n : ℕ) → n ≡ length front + 1 → list_any (λ k. passes_at (test k) (front ++ rest) k) (numbers_from n asked rest) ≡ any_numbered (λ k p. asked p && test k p) n rest
  asked-from front [] n is = refl
  asked-from front (p ∷ rest) n is =
      let passes : ℕ → Bool = λ k. passes_at (test k) (front ++ p ∷ rest) k in
      let numbers = numbers_from (n + 1) asked rest in
      let long = length_push front p in
      any-cond passes (asked p) n numbers
      ∙ ap (λ o. (asked p && option_map_or (test n) o false) || list_any passes numbers) (behind-front front p rest n is)
      ∙ ap (λ b. (asked p && test n p) || b)
      (ap (λ l. list_any (λ k. passes_at (test k) l k) numbers) (sym (append_assoc front (p ∷ []) rest))
      ∙ asked-from (front ++ p ∷ []) rest (n + 1) (omega (arith, is, long)))

  pub numbered-asked : (packages : List Listed) → list_any (λ k. passes_at (test k) packages k) (numbers_of asked packages) ≡ any_numbered (λ k p. asked p && test k p) 1 packages
  numbered-asked packages = asked-from [] packages 1 refl

-- a test that asks no number
pub unnumbered : (test : Listed → Bool) (n : ℕ) (packages : List Listed) → any_numbered (λ k p. test p) n packages ≡ list_any test packages
unnumbered test n [] = refl
unnumbered test n (p ∷ packages) = ap (λ b. test p || b) (unnumbered test (n + 1) packages)

-- one that asks which number
pub numbered-among : (k : ℕ) (test : Listed → Bool) (n : ℕ) (packages : List Listed) → any_numbered (λ j p. eqb k j && test p) n packages ≡ among k (numbers_from n test packages)
numbered-among k test n [] = refl
numbered-among k test n (p ∷ packages) =
    ap (λ b. (eqb k n && test p) || b) (numbered-among k test (n + 1) packages) ∙ go (test p) (eqb k n) (numbers_from (n + 1) test packages)
  where
    go : (v e : Bool) (rest : List ℕ) → ((eqb k n && v) || among k rest) ≡ among k (cond v (n ∷ rest) rest)
    go true e rest = both (eqb k n) (among k rest)
      where
        both : (e a : Bool) → ((e && true) || a) ≡ (e || a)
        both true a = refl
        both false a = refl
    go false e rest = none (eqb k n) (among k rest)
      where
        none : (e a : Bool) → ((e && false) || a) ≡ a
        none true a = refl
        none false a = refl
