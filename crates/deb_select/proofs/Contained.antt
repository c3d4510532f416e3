-- Where a search finds some bytes in a text, the text contains them, and else it doesn't.
use Rattle.std.proofs.Common.{◌≡◌, ℕ, zero, suc, ◌+◌, ◌<◌, ◌≤◌, ◌==◌, ◌||◌, Bool, true, false, is_some, List, [], ◌∷◌, length, map, slice_index, Option, None, Some, inl, inr, refl, sym, ap, ◌∙◌, arith, eq-eqb}
use Rattle.std.proofs.lemmas.Bool.{and_from, and_parts, cases_Bool, eqb-true, false≢true}
use Rattle.std.specs.List.{list_any}
use Rattle.memchr.specs.Find.{FindsNeedle, OccursAt}
use Rattle.deb_select.specs.Conditions.{begins_with, contains_text}

pub or-left : (a b : Bool) → a ≡ true → (a || b) ≡ true
or-left true b h = refl
or-left false b h = absurd (false≢true h)

pub or-right : (a b : Bool) → b ≡ true → (a || b) ≡ true
or-right true b h = refl
or-right false b h = h

or-other : (a b : Bool) → (a || b) ≡ true → a ≡ false → b ≡ true
or-other true b h none = absurd (false≢true (sym none))
or-other false b h none = h

begins-from : (part text : List ℕ) → length part ≤ length text → ((j : ℕ) → j < length part → slice_index text j ≡ slice_index part j) → begins_with part text ≡ true
begins-from [] text within reads = refl
begins-from (p ∷ part) [] within reads = absurd (omega arith)
begins-from (p ∷ part) (b ∷ text) within reads =
    and_from (p == b) (begins_with part text) (eq-eqb p b (sym (reads 0 (omega arith)))) (begins-from part text (omega arith) (λ j below. reads (suc j) (omega arith)))

begins-fits : (part text : List ℕ) → begins_with part text ≡ true → length part ≤ length text
begins-fits [] text begins = omega arith
begins-fits (p ∷ part) [] begins = absurd (false≢true begins)
begins-fits (p ∷ part) (b ∷ text) begins =
    let rest = begins-fits part text (and_parts (p == b) (begins_with part text) begins).1 in
    omega (arith, rest)

begins-reads : (part text : List ℕ) → begins_with part text ≡ true → (j : ℕ) → j < length part → slice_index text j ≡ slice_index part j
begins-reads [] text begins j below = absurd (omega arith)
begins-reads (p ∷ part) [] begins j below = absurd (false≢true begins)
begins-reads (p ∷ part) (b ∷ text) begins zero below = sym (eqb-true p b (and_parts (p == b) (begins_with part text) begins).0)
begins-reads (p ∷ part) (b ∷ text) begins (suc j) below = begins-reads part text (and_parts (p == b) (begins_with part text) begins).1 j (omega arith)

none_before : (j : ℕ) → 0 + j ≡ j
none_before j = omega arith

one_before : (k j : ℕ) → suc k + j ≡ suc (k + j)
one_before k j = omega arith

contains-at : (part text : List ℕ) (k : ℕ) → OccursAt text part k → contains_text part text ≡ true
contains-at part [] k occurs = begins-from part [] (omega (arith, occurs.fits)) (λ j below. absurd (omega (arith, occurs.fits)))
contains-at part (b ∷ text) zero occurs =
    or-left (begins_with part (b ∷ text)) (contains_text part text)
    (begins-from part (b ∷ text) (omega (arith, occurs.fits)) (λ j below. ap (slice_index (b ∷ text)) (sym (none_before j)) ∙ occurs.reads j below))
contains-at part (b ∷ text) (suc k) occurs =
    or-right (begins_with part (b ∷ text)) (contains_text part text)
    (contains-at part text k (record { fits = omega (arith, occurs.fits); reads = λ j below. ap (slice_index (b ∷ text)) (sym (one_before k j)) ∙ occurs.reads j below }))

occurs-in : (part text : List ℕ) → contains_text part text ≡ true → (k : ℕ) × OccursAt text part k
occurs-in part [] contains = (0, record { fits = omega (arith, begins-fits part [] contains); reads = λ j below. ap (slice_index []) (none_before j) ∙ begins-reads part [] contains j below })
occurs-in part (b ∷ text) contains =
    elim (cases_Bool (begins_with part (b ∷ text))) [
      | inl begins ↦ (0, record { fits = omega (arith, begins-fits part (b ∷ text) begins); reads = λ j below. ap (slice_index (b ∷ text)) (none_before j) ∙ begins-reads part (b ∷ text) begins j below })
      | inr other ↦
          let later = occurs-in part text (or-other (begins_with part (b ∷ text)) (contains_text part text) contains other) in
          (suc later.0, record { fits = omega (arith, later.1.fits); reads = λ j below. ap (slice_index (b ∷ text)) (one_before later.0 j) ∙ later.1.reads j below })
    ]

pub found-contains : (text part : List ℕ) (r : Option ℕ) → FindsNeedle text part 0 r → is_some r ≡ contains_text part text
found-contains text part (Some k) found = sym (contains-at part text k found.1)
found-contains text part None found =
    elim (cases_Bool (contains_text part text)) [
      | inl contains ↦
          let at = occurs-in part text contains in
          absurd (found at.0 (omega arith) (omega (arith, at.1.fits)) at.1)
      | inr none ↦ sym none
    ]

-- a test of what a map makes
pub any_map : {X Y : Type 0} (f : X → Y) (p : Y → Bool) (xs : List X) → list_any p (map f xs) ≡ list_any (λ x. p (f x)) xs
any_map f p [] = refl
any_map f p (x ∷ xs) = ap (λ v. p (f x) || v) (any_map f p xs)
