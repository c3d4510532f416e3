-- Stored rows decide as the rows by the definitions do.
use Rattle.std.proofs.Common.{◌≡◌, ℕ, ◌+◌, ◌≤◌, eqb, ltb, Bool, true, false, ◌&&◌, List, [], ◌∷◌, refl, sym, ap, ◌∙◌, inl, inr, arith}
use Rattle.std.specs.List.{list_all, list_any}
use Rattle.std.proofs.lemmas.Bool.{and_parts, eqb-true, false≢true, false_from_ne_true, ltb-true, or_cases, or_left, or_right}
use Rattle.deb_control.specs.Pairs.{Pairwise}
use Rattle.deb_index.specs.Named.{among}
use Rattle.deb_install.specs.Members.{IsHealthyByRows}
use Rattle.deb_install.specs.StoredRows.{AreStored, HaveSameNumbers}

-- a number of a list that is in a set, and back
pub record IsShared (set : ℕ → Bool) (numbers : List ℕ) : Type 0 where
  pub number : ℕ
  pub has : among number numbers ≡ true
  pub contains : set number ≡ true

itself : (k : ℕ) → eqb k k ≡ true
itself k = grind arith

pub shared : (set : ℕ → Bool) (numbers : List ℕ) → list_any set numbers ≡ true → IsShared set numbers
shared set [] some = absurd (false≢true some)
shared set (n ∷ numbers) some = elim (or_cases (set n) (list_any set numbers) some) [
  | inl first ↦ record { number = n; has = or_left (eqb n n) (among n numbers) (itself n); contains = first }
  | inr later ↦
      let more = shared set numbers later in
      record { number = more.number; has = or_right (eqb more.number n) (among more.number numbers) more.has; contains = more.contains }
]

pub passes : (test : ℕ → Bool) (numbers : List ℕ) (k : ℕ) → among k numbers ≡ true → test k ≡ true → list_any test numbers ≡ true
passes test [] k has is = absurd (false≢true has)
passes test (n ∷ numbers) k has is = elim (or_cases (eqb k n) (among k numbers) has) [
  | inl same ↦ or_left (test n) (list_any test numbers) (sym (ap test (eqb-true k n same)) ∙ is)
  | inr later ↦ or_right (test n) (list_any test numbers) (passes test numbers k later is)
]

pub all-pass : (test : ℕ → Bool) (numbers : List ℕ) (k : ℕ) → among k numbers ≡ true → list_all test numbers ≡ true → test k ≡ true
all-pass test [] k has all = absurd (false≢true has)
all-pass test (n ∷ numbers) k has all = elim (or_cases (eqb k n) (among k numbers) has) [
  | inl same ↦ ap test (eqb-true k n same) ∙ (and_parts (test n) (list_all test numbers) all).0
  | inr later ↦ all-pass test numbers k later (and_parts (test n) (list_all test numbers) all).1
]

-- one direction, for lists with the same numbers, and both
any-more : (set : ℕ → Bool) (numbers others : List ℕ) → HaveSameNumbers numbers others → list_any set numbers ≡ true → list_any set others ≡ true
any-more set numbers others same some =
    let s = shared set numbers some in
    passes set others s.number (sym (same s.number) ∙ s.has) s.contains

pub any-same : (set : ℕ → Bool) (numbers others : List ℕ) → HaveSameNumbers numbers others → list_any set numbers ≡ list_any set others
any-same set numbers others same = go (list_any set numbers) refl
  where
    go : (v : Bool) → list_any set numbers ≡ v → list_any set numbers ≡ list_any set others
    go true is = is ∙ sym (any-more set numbers others same is)
    go false is = is ∙ sym (false_from_ne_true (list_any set others) (λ some. false≢true (sym is ∙ any-more set others numbers (λ k. sym (same k)) some)))

pub rows-same : (set : ℕ → Bool) (rows needs : List (List ℕ)) → Pairwise HaveSameNumbers rows needs → list_all (list_any set) rows ≡ list_all (list_any set) needs
rows-same set [] [] same = refl
rows-same set [] (need ∷ needs) same = absurd same
rows-same set (row ∷ rows) [] same = absurd same
rows-same set (row ∷ rows) (need ∷ needs) same =
    let first = any-same set row need same.0 in
    let more = rows-same set rows needs same.1 in
    λ i. first i && more i

-- numbers that name a package of so many
abbrev pub names_one : ℕ → ℕ → Bool
names_one count k = ltb 0 k && ltb k (count + 1)

pub within-names : (count k : ℕ) → names_one count k ≡ true → (1 ≤ k) × (k ≤ count)
within-names count k is =
    let bounds = and_parts (ltb 0 k) (ltb k (count + 1)) is in
    let some = ltb-true 0 k bounds.0 in
    let below = ltb-true k (count + 1) bounds.1 in
    (omega (arith, some), omega (arith, below))

module _ (count : ℕ) (needs : ℕ → List (List ℕ)) (excludes : ℕ → List ℕ) (rows : ℕ → List (List ℕ)) (both : ℕ → List ℕ)
    (listed : (number other : ℕ) → 1 ≤ number → number ≤ count → among other (excludes number) ≡ true → (1 ≤ other) × (other ≤ count))
    (stored : AreStored count needs excludes rows both) (set : ℕ → Bool) where
  pub stored-healthy : IsHealthyByRows count needs excludes set → IsHealthyByRows count rows both set
  stored-healthy healthy = record {
    abundance = λ number some most contains. rows-same set (rows number) (needs number) (stored.needed number some most) ∙ healthy.abundance number some most contains;
    peace = λ number some most contains.
        false_from_ne_true (list_any set (both number)) (λ is.
        let s = shared set (both number) is in
        let there = stored.listed number s.number some most s.has in
        elim (or_cases (among s.number (excludes number)) (among number (excludes s.number)) (sym (stored.excluded number s.number some most there.0 there.1) ∙ s.has)) [
          | inl own ↦ false≢true (sym (healthy.peace number some most contains) ∙ passes set (excludes number) s.number own s.contains)
          | inr other ↦ false≢true (sym (healthy.peace s.number there.0 there.1 s.contains) ∙ passes set (excludes s.number) number other contains)
        ]);
  }

  pub healthy-stored : IsHealthyByRows count rows both set → IsHealthyByRows count needs excludes set
  healthy-stored healthy = record {
    abundance = λ number some most contains. sym (rows-same set (rows number) (needs number) (stored.needed number some most)) ∙ healthy.abundance number some most contains;
    peace = λ number some most contains.
        false_from_ne_true (list_any set (excludes number)) (λ is.
        let s = shared set (excludes number) is in
        let there = listed number s.number some most s.has in
        false≢true (sym (healthy.peace number some most contains)
        ∙ passes set (both number) s.number (stored.excluded number s.number some most there.0 there.1 ∙ or_left (among s.number (excludes number)) (among number (excludes s.number)) s.has) s.contains));
  }
