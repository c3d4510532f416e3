-- Sets of numbers as lists and as marks.
use Rattle.std.proofs.Common.{◌≡◌, ℕ, ◌+◌, ◌<◌, ◌≤◌, ◌||◌, Bool, true, false, List, [], length, drop, take, get_or, replicate, set, refl, sym, ap, ap₂, ◌∙◌, arith, eqb, inl, inr}
use Rattle.std.proofs.lemmas.Bool.{cases_eq, cases_lt, eq-eqb, eqb-true, false_from_ne_true, false≢true, ne_eqb, or_cases}
use Rattle.std.proofs.lemmas.List.{at_drop_all, at_drop_more, get_or-replicate, get_or-set_same, get_or-set_other, get_or_past, length-replicate, length-set}
use Rattle.std.proofs.lemmas.List.Folds.{list_any_more}
use Rattle.deb_solve.specs.Health.{is_among}
use Rattle.deb_solve.specs.Marks.{AreMarks, marked}

pub unmarked : (n p : ℕ) → marked (replicate n false) p ≡ false
unmarked n p = elim (cases_lt p n) [
  | inl below ↦ get_or-replicate n p false false below
  | inr past ↦ get_or_past (replicate n false) p false (rw (length-replicate n false) past)
]

pub AreMarks-none : (marks : List Bool) → ((p : ℕ) → marked marks p ≡ false) → AreMarks marks [] (length marks)
AreMarks-none marks unset = record { same = λ p below. unset p; size = refl }

or_false : (b : Bool) → b ≡ (b || false)
or_false true = refl
or_false false = refl

or_true : (b : Bool) → true ≡ (b || true)
or_true true = refl
or_true false = refl

set_mark : (marks : List Bool) (m p : ℕ) → m < length marks → marked (set marks m true) p ≡ (marked marks p || eqb m p)
set_mark marks m p within = elim (cases_eq p m) [
  | inl same ↦ ap (get_or (set marks m true) p) refl
      ∙ ap (λ q. get_or (set marks m true) q false) same ∙ get_or-set_same marks m true false within
      ∙ or_true (marked marks p) ∙ ap (λ b. marked marks p || b) (sym (eq-eqb m p (sym same)))
  | inr other ↦ get_or-set_other marks m p true false other
      ∙ or_false (marked marks p) ∙ ap (λ b. marked marks p || b) (sym (ne_eqb m p (λ e. other (sym e))))
]

pub AreMarks-more : (marks : List Bool) (numbers : List ℕ) (i m count : ℕ) → i < length numbers → m ≡ get_or numbers i m → m < length marks
    → AreMarks marks (take i numbers) count → AreMarks (set marks m true) (take (i + 1) numbers) count
AreMarks-more marks numbers i m count within at inside are = record {
  same = λ p below.
      set_mark marks m p inside ∙ ap₂ (λ a b. a || b) (are.same p below) (ap (λ n. eqb n p) at)
      ∙ sym (list_any_more (λ member. eqb member p) numbers i m within);
  size = length-set marks m true ∙ are.size;
}

-- a number that has no mark
pub AreMarks-past : (marks : List Bool) (numbers : List ℕ) (i m count : ℕ) → i < length numbers → m ≡ get_or numbers i m → length marks ≤ m
    → AreMarks marks (take i numbers) count → AreMarks marks (take (i + 1) numbers) count
AreMarks-past marks numbers i m count within at past are = record {
  same = λ p below.
      let size = are.size in
      are.same p below ∙ or_false (is_among (take i numbers) p)
      ∙ ap (λ b. is_among (take i numbers) p || b) (sym (ap (λ n. eqb n p) (sym at) ∙ ne_eqb m p (λ e. omega (arith, e, size, past, below))))
      ∙ sym (list_any_more (λ member. eqb member p) numbers i m within);
  size = are.size;
}

-- Each number with a mark is in the list.
abbrev pub AreWithin : List Bool → List ℕ → Type 0
AreWithin marks numbers = (p : ℕ) → marked marks p ≡ true → is_among numbers p ≡ true

marked_below : (marks : List Bool) (p : ℕ) → marked marks p ≡ true → p < length marks
marked_below marks p is = elim (cases_lt p (length marks)) [
  | inl below ↦ below
  | inr past ↦ absurd (false≢true (sym (get_or_past marks p false past) ∙ is))
]

pub AreWithin-first : (marks : List Bool) (numbers : List ℕ) → AreMarks marks numbers (length marks) → AreWithin marks numbers
AreWithin-first marks numbers are p is = sym (are.same p (marked_below marks p is)) ∙ is

-- another number than the first of the rest
within_rest : (numbers : List ℕ) (i m p : ℕ) → i < length numbers → m ≡ get_or numbers i m → (p ≡ m → ⊥) → is_among (drop i numbers) p ≡ true → is_among (drop (i + 1) numbers) p ≡ true
within_rest numbers i m p within at other among =
    elim (or_cases _ _ (sym (at_drop_more (λ ns. is_among ns p) numbers i m within) ∙ among)) [
      | inl same ↦ absurd (other (sym (at ∙ eqb-true _ p same)))
      | inr later ↦ later
    ]

pub AreWithin-less : (marks : List Bool) (numbers : List ℕ) (i m : ℕ) → i < length numbers → m ≡ get_or numbers i m → m < length marks
    → AreWithin marks (drop i numbers) → AreWithin (set marks m false) (drop (i + 1) numbers)
AreWithin-less marks numbers i m within at inside are p is = elim (cases_eq p m) [
  | inl same ↦ absurd (false≢true (sym (ap (λ q. get_or (set marks m false) q false) same ∙ get_or-set_same marks m false false inside) ∙ is))
  | inr other ↦ within_rest numbers i m p within at other (are p (sym (get_or-set_other marks m p false false other) ∙ is))
]

pub AreWithin-past : (marks : List Bool) (numbers : List ℕ) (i m : ℕ) → i < length numbers → m ≡ get_or numbers i m → length marks ≤ m
    → AreWithin marks (drop i numbers) → AreWithin marks (drop (i + 1) numbers)
AreWithin-past marks numbers i m within at past are p is =
    let below = marked_below marks p is in
    within_rest numbers i m p within at (λ e. omega (arith, e, past, below)) (are p is)

pub AreWithin-none : (marks : List Bool) (numbers : List ℕ) (i : ℕ) → length numbers ≤ i → AreWithin marks (drop i numbers) → (p : ℕ) → marked marks p ≡ false
AreWithin-none marks numbers i past are p =
    false_from_ne_true _ (λ is. false≢true (sym (at_drop_all (λ ns. is_among ns p) numbers i past) ∙ are p is))

-- if the numbers of the list have marks, it has those with marks
pub alike : (marks : List Bool) (numbers : List ℕ) (count : ℕ) → AreMarks marks numbers count
    → ((p : ℕ) → is_among numbers p ≡ true → p < count) → (p : ℕ) → marked marks p ≡ is_among numbers p
alike marks numbers count are below p = elim (cases_lt p count) [
  | inl inside ↦ are.same p inside
  | inr past ↦
      let size = are.size in
      get_or_past marks p false (omega (arith, size, past))
      ∙ sym (false_from_ne_true _ (λ among. let inside = below p among in omega (arith, inside, past)))
]
