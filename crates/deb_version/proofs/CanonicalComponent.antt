-- The canonical text of parts has those parts, and holds only what their texts hold, and digits.
use Rattle.deb_version.proofs.Common.{◌≡◌, ◌≢◌, ℕ, ◌+◌, ◌≤◌, ◌==◌, ◌&&◌, true, false, cond, List, [], ◌∷◌, ◌++◌, length, refl, sym, ap, ◌∙◌, subst, arith, IsTrue, ◌⊎◌, inl, inr, is_ascii_digit, AllByRecursion, append-nil, length-append, false≢true, eqb-true, value_of, Cut, Part, joined, IsDigits, AreCuts, part_of, parts_of_cuts, HasParts, digits_of, ends_in_letter, last_digits_of, component_text, cons_not_nil}
use Rattle.deb_version.proofs.Emptiness.{append_some, append_some_front}
use Rattle.deb_version.proofs.Choices.{left_or_written}
use Rattle.deb_version.proofs.CanonicalDigits.{value_of-digits_of, IsDigits-digits_of, digits_of-some, length-digits_of-value_of}

-- the cuts of the canonical text
abbrev canonical_cuts : List Part → List Cut
canonical_cuts [] = []
canonical_cuts (part ∷ []) = (part.0, last_digits_of part) ∷ []
canonical_cuts (part ∷ next ∷ parts) = (part.0, digits_of part.1) ∷ canonical_cuts (next ∷ parts)

joined-canonical_cuts : (parts : List Part) → joined (canonical_cuts parts) ≡ component_text parts
joined-canonical_cuts [] = refl
joined-canonical_cuts (part ∷ []) = ap (λ l. part.0 ++ l) (append-nil (last_digits_of part))
joined-canonical_cuts (part ∷ next ∷ parts) = ap (λ l. part.0 ++ (digits_of part.1 ++ l)) (joined-canonical_cuts (next ∷ parts))

-- the number of the last part is left out, or written
last_digits_cases : (part : Part) → (((part.1 == 0) ≡ true) × (ends_in_letter part.0 ≡ true) × (last_digits_of part ≡ [])) ⊎ (last_digits_of part ≡ digits_of part.1)
last_digits_cases part = left_or_written (part.1 == 0) (ends_in_letter part.0) [] (digits_of part.1)

value_of-last_digits_of : (part : Part) → value_of (last_digits_of part) ≡ part.1
value_of-last_digits_of part =
    elim (last_digits_cases part) [ inl out ↦ ap value_of out.2 ∙ sym (eqb-true part.1 0 out.0) | inr written ↦ ap value_of written ∙ value_of-digits_of part.1 ]

pub IsDigits-last_digits_of : (part : Part) → IsDigits (last_digits_of part)
IsDigits-last_digits_of part =
    elim ((part.1 == 0) && ends_in_letter part.0) as (λ v. IsDigits (cond v [] (digits_of part.1))) [ true ↦ tt | false ↦ IsDigits-digits_of part.1 ]

parts_of_cuts-canonical_cuts : (parts : List Part) → parts_of_cuts (canonical_cuts parts) ≡ parts
parts_of_cuts-canonical_cuts [] = refl
parts_of_cuts-canonical_cuts (part ∷ []) = ap (λ n. (part.0, n) ∷ []) (value_of-last_digits_of part)
parts_of_cuts-canonical_cuts (part ∷ next ∷ parts) =
    ap (λ n. (part.0, n) ∷ parts_of_cuts (canonical_cuts (next ∷ parts))) (value_of-digits_of part.1)
    ∙ ap (λ l. part ∷ l) (parts_of_cuts-canonical_cuts (next ∷ parts))

AreCuts-canonical_cuts : (cuts : List Cut) → AreCuts cuts → AreCuts (canonical_cuts (parts_of_cuts cuts))
AreCuts-canonical_cuts [] are = absurd are
AreCuts-canonical_cuts (cut ∷ []) are = (are.0, IsDigits-last_digits_of (part_of cut))
AreCuts-canonical_cuts (cut ∷ next ∷ []) are =
    (are.0, IsDigits-digits_of (value_of cut.1), digits_of-some (value_of cut.1), are.3, AreCuts-canonical_cuts (next ∷ []) are.4)
AreCuts-canonical_cuts (cut ∷ next ∷ third ∷ cuts) are =
    (are.0, IsDigits-digits_of (value_of cut.1), digits_of-some (value_of cut.1), are.3, AreCuts-canonical_cuts (next ∷ third ∷ cuts) are.4)

-- The canonical text of the parts of a text has those parts.
pub HasParts-component_text : (text : List ℕ) (parts : List Part) → HasParts text parts → HasParts (component_text parts) parts
HasParts-component_text text parts h =
    (canonical_cuts parts, subst (λ l. AreCuts (canonical_cuts l)) (sym h.3) (AreCuts-canonical_cuts h.0 h.1), sym (joined-canonical_cuts parts), sym (parts_of_cuts-canonical_cuts parts))

-- what holds of each byte of two texts, and of their bytes one after the other
pub All-append : (P : ℕ → Type 0) (xs ys : List ℕ) → AllByRecursion P xs → AllByRecursion P ys → AllByRecursion P (xs ++ ys)
All-append P [] ys front back = back
All-append P (x ∷ xs) ys front back = (front.0, All-append P xs ys front.1 back)

pub All-append_front : (P : ℕ → Type 0) (xs ys : List ℕ) → AllByRecursion P (xs ++ ys) → AllByRecursion P xs
All-append_front P [] ys all = tt
All-append_front P (x ∷ xs) ys all = (all.0, All-append_front P xs ys all.1)

pub All-append_back : (P : ℕ → Type 0) (xs ys : List ℕ) → AllByRecursion P (xs ++ ys) → AllByRecursion P ys
All-append_back P [] ys all = all
All-append_back P (x ∷ xs) ys all = All-append_back P xs ys all.1

pub All-weaker : (P Q : ℕ → Type 0) → ((b : ℕ) → P b → Q b) → (xs : List ℕ) → AllByRecursion P xs → AllByRecursion Q xs
All-weaker P Q weaker [] all = tt
All-weaker P Q weaker (x ∷ xs) all = (weaker x all.0, All-weaker P Q weaker xs all.1)

module _ (P : ℕ → Type 0) (digit : (b : ℕ) → IsTrue (is_ascii_digit b) → P b) where
  All-digits : (run : List ℕ) → IsDigits run → AllByRecursion P run
  All-digits run digits = All-weaker (λ b. IsTrue (is_ascii_digit b)) P digit run digits

  All-joined : (cuts : List Cut) → AllByRecursion P (joined cuts) → AllByRecursion P (component_text (parts_of_cuts cuts))
  All-joined [] all = tt
  All-joined (cut ∷ []) all = All-append P cut.0 (last_digits_of (part_of cut)) (All-append_front P cut.0 (cut.1 ++ []) all) (All-digits (last_digits_of (part_of cut)) (IsDigits-last_digits_of (part_of cut)))
  All-joined (cut ∷ next ∷ cuts) all =
      All-append P cut.0 (digits_of (value_of cut.1) ++ component_text (parts_of_cuts (next ∷ cuts))) (All-append_front P cut.0 (cut.1 ++ joined (next ∷ cuts)) all)
      (All-append P (digits_of (value_of cut.1)) (component_text (parts_of_cuts (next ∷ cuts)))
      (All-digits (digits_of (value_of cut.1)) (IsDigits-digits_of (value_of cut.1)))
      (All-joined (next ∷ cuts) (All-append_back P cut.1 (joined (next ∷ cuts)) (All-append_back P cut.0 (cut.1 ++ joined (next ∷ cuts)) all))))

  -- What holds of each byte of a text and of each digit holds of each byte of the canonical text of its parts.
  pub All-component_text : (text : List ℕ) (parts : List Part) → HasParts text parts → AllByRecursion P text → AllByRecursion P (component_text parts)
  All-component_text text parts h all =
      subst (λ l. AllByRecursion P (component_text l)) (sym h.3) (All-joined h.0 (subst (λ l. AllByRecursion P l) h.2 all))

last_text_some : (part : Part) → (part.0 ++ last_digits_of part) ≢ []
last_text_some part =
    elim (last_digits_cases part) [
      | inl out ↦ append_some_front part.0 (last_digits_of part) (λ e. false≢true (sym (ap ends_in_letter e) ∙ out.1))
      | inr written ↦ append_some part.0 (last_digits_of part) (λ e. digits_of-some part.1 (sym written ∙ e))
    ]

component_text_some_of_cuts : (cuts : List Cut) → AreCuts cuts → component_text (parts_of_cuts cuts) ≢ []
component_text_some_of_cuts [] are = absurd are
component_text_some_of_cuts (cut ∷ []) are = last_text_some (part_of cut)
component_text_some_of_cuts (cut ∷ next ∷ cuts) are =
    append_some cut.0 (digits_of (value_of cut.1) ++ component_text (parts_of_cuts (next ∷ cuts)))
    (append_some_front (digits_of (value_of cut.1)) (component_text (parts_of_cuts (next ∷ cuts))) (digits_of-some (value_of cut.1)))

-- The canonical text of parts isn't empty.
pub component_text-some : (text : List ℕ) (parts : List Part) → HasParts text parts → component_text parts ≢ []
component_text-some text parts h = subst (λ l. component_text l ≢ []) (sym h.3) (component_text_some_of_cuts h.0 h.1)

length-digits_of-run : (run : List ℕ) → IsDigits run → length (digits_of (value_of run)) ≤ length run + 1
length-digits_of-run [] digits = omega arith
length-digits_of-run (b ∷ run) digits = omega (arith, length-digits_of-value_of (b ∷ run) digits (cons_not_nil b run))

length-last_digits_of : (text run : List ℕ) → IsDigits run → length (last_digits_of (text, value_of run)) ≤ length run + 1
length-last_digits_of text run digits =
    elim (last_digits_cases (text, value_of run)) [
      | inl out ↦ omega (arith, ap length out.2)
      | inr written ↦ omega (arith, ap length written, length-digits_of-run run digits)
    ]

length_of_cuts : (cuts : List Cut) → AreCuts cuts → length (component_text (parts_of_cuts cuts)) ≤ length (joined cuts) + 1
length_of_cuts [] are = absurd are
length_of_cuts (cut ∷ []) are =
    let last = length-last_digits_of cut.0 cut.1 are.1 in
    let whole = length-append cut.0 (cut.1 ++ []) in
    let nil = ap length (append-nil cut.1) in
    let text = length-append cut.0 (last_digits_of (part_of cut)) in
    omega (arith, last, whole, nil, text)
length_of_cuts (cut ∷ next ∷ cuts) are =
    let behind = length_of_cuts (next ∷ cuts) are.4 in
    let run = length-digits_of-value_of cut.1 are.1 are.2 in
    let whole = length-append cut.0 (cut.1 ++ joined (next ∷ cuts)) in
    let whole_back = length-append cut.1 (joined (next ∷ cuts)) in
    let text = length-append cut.0 (digits_of (value_of cut.1) ++ component_text (parts_of_cuts (next ∷ cuts))) in
    let text_back = length-append (digits_of (value_of cut.1)) (component_text (parts_of_cuts (next ∷ cuts))) in
    omega (arith, behind, run, whole, whole_back, text, text_back)

-- The canonical text of the parts of a text has at most one byte more than the text: a zero where the last run is empty.
pub length-component_text : (text : List ℕ) (parts : List Part) → HasParts text parts → length (component_text parts) ≤ length text + 1
length-component_text text parts h =
    let short = length_of_cuts h.0 h.1 in
    let same_text = ap length h.2 in
    let same_parts = ap (λ l. length (component_text l)) h.3 in
    omega (arith, short, same_text, same_parts)
