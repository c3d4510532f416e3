-- Tests of each byte of a text, as facts, and the bytes that separate components.
use Rattle.deb_version.proofs.Common.{◌≡◌, ◌≢◌, ℕ, ◌+◌, All, Bool, true, false, cond, not, ◌==◌, ◌||◌, List, [], ◌∷◌, Some, None, length, refl, sym, ap, ◌∙◌, IsTrue, arith, AllByRecursion, list_any, list_all, position_from, true≢false, eqb-false, ne_eqb, and_parts, and_from, not-false, not_from_true, All-weaker, list_any_none}
use Rattle.std.specs.List.{position}
use Rattle.std.proofs.lemmas.Iterator.Adapters.{position_from-zero}
use Rattle.std.proofs.lemmas.Bool.{or_parts}

-- a byte that passes a test isn't one that fails it
pub differs : (test : ℕ → Bool) (n : ℕ) → test n ≡ false → (b : ℕ) → test b ≡ true → b ≢ n
differs test n fails b passes e = true≢false (sym passes ∙ ap test e ∙ fails)

-- where each byte passes a test, no byte is one that fails it
pub none_equal : (test : ℕ → Bool) (n : ℕ) → test n ≡ false → (text : List ℕ) → AllByRecursion (λ b. IsTrue (test b)) text → list_any (λ b. b == n) text ≡ false
none_equal test n fails [] all = refl
none_equal test n fails (b ∷ text) all = ap (λ v. v || list_any (λ x. x == n) text) (ne_eqb b n (differs test n fails b all.0)) ∙ none_equal test n fails text all.1

-- that no byte is n, as a test and as a fact
pub none_equal-test : (n : ℕ) (text : List ℕ) → AllByRecursion (λ b. b ≢ n) text → list_any (λ b. b == n) text ≡ false
none_equal-test n [] all = refl
none_equal-test n (b ∷ text) all = ap (λ v. v || list_any (λ x. x == n) text) (ne_eqb b n all.0) ∙ none_equal-test n text all.1

pub none_equal-fact : (n : ℕ) (text : List ℕ) → list_any (λ b. b == n) text ≡ false → AllByRecursion (λ b. b ≢ n) text
none_equal-fact n [] none = tt
none_equal-fact n (b ∷ text) none =
    let sides = or_parts (b == n) (list_any (λ x. x == n) text) none in
    (eqb-false b n sides.0, none_equal-fact n text sides.1)

-- that each byte passes, as a test and as a fact
pub all_pass-test : (test : ℕ → Bool) (text : List ℕ) → AllByRecursion (λ b. IsTrue (test b)) text → list_all test text ≡ true
all_pass-test test [] all = refl
all_pass-test test (b ∷ text) all = and_from (test b) (list_all test text) all.0 (all_pass-test test text all.1)

pub all_pass-fact : (test : ℕ → Bool) (text : List ℕ) → list_all test text ≡ true → AllByRecursion (λ b. IsTrue (test b)) text
all_pass-fact test [] all = tt
all_pass-fact test (b ∷ text) all =
    let sides = and_parts (test b) (list_all test text) all in
    (sides.0, all_pass-fact test text sides.1)

-- the same by the test that no byte fails
pub none_fails-test : (test : ℕ → Bool) (text : List ℕ) → AllByRecursion (λ b. IsTrue (test b)) text → list_any (λ b. not (test b)) text ≡ false
none_fails-test test [] all = refl
none_fails-test test (b ∷ text) all = ap (λ v. not v || list_any (λ x. not (test x)) text) all.0 ∙ none_fails-test test text all.1

pub none_fails-fact : (test : ℕ → Bool) (text : List ℕ) → list_any (λ b. not (test b)) text ≡ false → AllByRecursion (λ b. IsTrue (test b)) text
none_fails-fact test [] none = tt
none_fails-fact test (b ∷ text) none =
    let sides = or_parts (not (test b)) (list_any (λ x. not (test x)) text) none in
    (not-false (test b) sides.0, none_fails-fact test text sides.1)

-- that a text isn't empty, as a test and as a fact
pub empty-test : (text : List ℕ) → text ≢ [] → (length text == 0) ≡ false
empty-test [] some = absurd (some refl)
empty-test (b ∷ text) some = ne_eqb (length (b ∷ text)) 0 (λ e. omega arith)

pub empty-fact : (text : List ℕ) → (length text == 0) ≡ false → text ≢ []
empty-fact text some e = true≢false (sym (ap (λ t. length t == 0) e) ∙ some)

-- the same from what a search along the text gives
pub none_fails-all : (test : ℕ → Bool) (text : List ℕ) → All (λ b. IsTrue (test b)) text → list_any (λ b. not (test b)) text ≡ false
none_fails-all test text all = list_any_none (λ b. not (test b)) text (All-weaker (λ b. IsTrue (test b)) (λ b. not (test b) ≡ false) (λ b passes. not_from_true (test b) passes) text all)

-- that a search for a byte that fails finds none, as a test and as a fact
from_none-test : (test : ℕ → Bool) (at : ℕ) (text : List ℕ) → AllByRecursion (λ b. IsTrue (test b)) text → position_from (λ b. not (test b)) at text ≡ None
from_none-test test at [] all = refl
from_none-test test at (b ∷ text) all = rw all.0 (from_none-test test (at + 1) text all.1)

from_none-fact : (test : ℕ → Bool) (at : ℕ) (text : List ℕ) → position_from (λ b. not (test b)) at text ≡ None → AllByRecursion (λ b. IsTrue (test b)) text
from_none-fact test at [] none = tt
from_none-fact test at (b ∷ text) none =
    elim (test b) as (λ v. test b ≡ v → cond (not v) (Some at) (position_from (λ x. not (test x)) (at + 1) text) ≡ None → AllByRecursion (λ x. IsTrue (test x)) (b ∷ text)) [
      | true ↦ λ passes h. (passes, from_none-fact test (at + 1) text h)
      | false ↦ λ fails h. absurd cc
    ] refl none

pub position_none-test : (test : ℕ → Bool) (text : List ℕ) → AllByRecursion (λ b. IsTrue (test b)) text → position (λ b. not (test b)) text ≡ None
position_none-test test text all = position_from-zero (λ b. not (test b)) text ∙ from_none-test test 0 text all

pub position_none-fact : (test : ℕ → Bool) (text : List ℕ) → position (λ b. not (test b)) text ≡ None → AllByRecursion (λ b. IsTrue (test b)) text
position_none-fact test text none = from_none-fact test 0 text (sym (position_from-zero (λ b. not (test b)) text) ∙ none)
