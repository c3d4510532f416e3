-- The canonical text of a component, cut by cut.
use Rattle.deb_version.proofs.Common.{◌≡◌, ◌≢◌, ℕ, ◌+◌, ◌-◌, ◌*◌, ◌<◌, ◌==◌, ◌&&◌, ◌||◌, Bool, true, false, not, cond, List, [], ◌∷◌, ◌++◌, length, Some, refl, sym, ap, ◌∙◌, arith, IsTrue, ◌⊎◌, inl, inr, is_ascii_digit, list_any, append-nil, list_any-append, false≢true, true≢false, ne_eqb, nat_tests, value_of, Cut, Part, joined, IsDigits, AreCuts, part_of, parts_of_cuts, with_digit, with_byte, cuts_of, parts_of, cuts_after, digits_of, ends_in_letter, last_digits_of, component_text, is_no_revision, cons_not_nil, joined-cuts_of, AreCuts-cuts_of}
use Rattle.std.specs.List.{slice_get}
use Rattle.deb_version.proofs.Emptiness.{nil_of_length}
use Rattle.deb_version.proofs.ByteLemmas.{empty-fact, none_equal}
use Rattle.deb_version.proofs.ValueLemmas.{value_after-le}
use Rattle.deb_version.proofs.LeadingZeros.{by_zero, is_nonzero, without_zeros, without_zeros-zero, without_zeros-other, without_zeros-starts, value_of-zero, value_of-without_zeros}
use Rattle.deb_version.proofs.FirstPlace.{StartsWith}
use Rattle.deb_version.proofs.NumberOrder.{IsDigits-drop}
use Rattle.deb_version.proofs.CanonicalComponent.{IsDigits-last_digits_of}
use Rattle.deb_version.proofs.CanonicalDigits.{digits_of-value_of, IsDigits-digits_of}

-- the number of a cut in canonical text: of the last one, or of another
abbrev pub number_text : Cut → Bool → List ℕ
number_text cut is_last = cond is_last (last_digits_of (part_of cut)) (digits_of (value_of cut.1))

-- the canonical text of what follows a cut
abbrev pub rest_text : List ℕ → List ℕ
rest_text [] = []
rest_text (b ∷ rest) = component_text (parts_of (b ∷ rest))

component_text-cons : (part : Part) (parts : List Part) → parts ≢ [] → component_text (part ∷ parts) ≡ part.0 ++ (digits_of part.1 ++ component_text parts)
component_text-cons part [] some = absurd (some refl)
component_text-cons part (next ∷ parts) some = refl

parts_some : (cuts : List Cut) → AreCuts cuts → parts_of_cuts cuts ≢ []
parts_some [] are = absurd are
parts_some (cut ∷ cuts) are = cons_not_nil (part_of cut) (parts_of_cuts cuts)

-- The canonical text of a component begins with its first text and the canonical number after it.
pub component_text-first : (bytes after : List ℕ) (cut : Cut) → cuts_of bytes ≡ cut ∷ cuts_after after
    → component_text (parts_of bytes) ≡ cut.0 ++ (number_text cut (length after == 0) ++ rest_text after)
component_text-first bytes [] cut e =
    ap (λ cuts. component_text (parts_of_cuts cuts)) e ∙ ap (λ l. cut.0 ++ l) (sym (append-nil (last_digits_of (part_of cut))))
component_text-first bytes (b ∷ after) cut e =
    ap (λ cuts. component_text (parts_of_cuts cuts)) e
    ∙ component_text-cons (part_of cut) (parts_of (b ∷ after)) (parts_some (cuts_of (b ∷ after)) (AreCuts-cuts_of (b ∷ after)))
    ∙ ap (λ v. cut.0 ++ (number_text cut v ++ component_text (parts_of (b ∷ after)))) (sym (ne_eqb (length (b ∷ after)) 0 (λ h. omega arith)))

-- what follows a cut is the text after it, and so is its canonical text if it is its own
pub joined_after : (after : List ℕ) → joined (cuts_after after) ≡ after
joined_after [] = refl
joined_after (b ∷ after) = joined-cuts_of (b ∷ after)

-- A component is its own canonical text where the number of its first cut is spelled so, and the rest is too.
pub component_text-itself : (bytes after : List ℕ) (cut : Cut) → cuts_of bytes ≡ cut ∷ cuts_after after
    → number_text cut (length after == 0) ≡ cut.1 → rest_text after ≡ after → component_text (parts_of bytes) ≡ bytes
component_text-itself bytes after cut e number rest =
    component_text-first bytes after cut e
    ∙ ap (λ n. cut.0 ++ (n ++ rest_text after)) number
    ∙ ap (λ r. cut.0 ++ (cut.1 ++ r)) (rest ∙ sym (joined_after after))
    ∙ ap joined (sym e) ∙ joined-cuts_of bytes

-- Where nothing is left without leading zeros the value is 0.
pub without_zeros-none : (run : List ℕ) → without_zeros run ≡ [] → value_of run ≡ 0
without_zeros-none run e = sym (value_of-without_zeros run) ∙ ap value_of e

first_positive : (b : ℕ) (run : List ℕ) → IsTrue (is_ascii_digit b) → b ≢ 48 → 0 < value_of (b ∷ run)
first_positive b run digit other =
    let above : 48 < b = grind (arith, nat_tests) in
    omega (arith, above, value_after-le (10 * 0 + (b - 48)) run)

-- a run that begins with no zero is the number in canonical digits, and that isn't 0
pub number_left : (left : List ℕ) → IsDigits left → StartsWith is_nonzero left → left ≢ [] → (left ≡ digits_of (value_of left)) × ((value_of left == 0) ≡ false)
number_left [] digits starts some = absurd (some refl)
number_left (b ∷ left) digits starts some =
    let other = λ (is : b ≡ 48). true≢false (sym starts ∙ ap is_nonzero is) in
    let positive = first_positive b left digits.0 other in
    (sym (digits_of-value_of b left digits other), ne_eqb (value_of (b ∷ left)) 0 (λ e. omega arith))

-- so it is the number in canonical text
pub number_as_spelled : (text run : List ℕ) (b : ℕ) → IsDigits run → Some b ≡ slice_get run 0 → b ≢ 48 → (is_last : Bool) → number_text (text, run) is_last ≡ run
number_as_spelled text [] b digits first other is_last = absurd cc
number_as_spelled text (d ∷ run) b digits first other is_last =
    let same : b ≡ d = cc in
    let number = number_left (d ∷ run) digits (ap not (ne_eqb d 48 (λ e. other (same ∙ e)))) (cons_not_nil d run) in
    elim is_last as (λ v. number_text (text, d ∷ run) v ≡ d ∷ run) [
      | true ↦ ap (λ v. cond (v && ends_in_letter text) [] (digits_of (value_of (d ∷ run)))) number.1 ∙ sym number.0
      | false ↦ sym number.0
    ]

-- So is what is left without leading zeros, if anything.
module _ (run : List ℕ) (digits : IsDigits run) (some : without_zeros run ≢ []) where
  left : (without_zeros run ≡ digits_of (value_of (without_zeros run))) × ((value_of (without_zeros run) == 0) ≡ false)
  left = number_left (without_zeros run) (IsDigits-drop _ run digits) (without_zeros-starts run) some

  pub without_zeros-some : without_zeros run ≡ digits_of (value_of run)
  without_zeros-some = left.0 ∙ ap digits_of (value_of-without_zeros run)

  pub positive_of_digits : (value_of run == 0) ≡ false
  positive_of_digits = ap (λ n. n == 0) (sym (value_of-without_zeros run)) ∙ left.1

-- The three numbers that the code writes: the digits that are left, nothing, and one zero.
module _ (cut : Cut) (left : List ℕ) (is : left ≡ without_zeros cut.1) where
  pub number_written : (is_last : Bool) → IsDigits cut.1 → (length left == 0) ≡ false → left ≡ number_text cut is_last
  number_written is_last digits e =
      let some = λ (h : without_zeros cut.1 ≡ []). empty-fact left e (is ∙ h) in
      let written = is ∙ without_zeros-some cut.1 digits some in
      elim is_last as (λ v. left ≡ number_text cut v) [
        | true ↦ written ∙ ap (λ v. cond (v && ends_in_letter cut.0) [] (digits_of (value_of cut.1))) (sym (positive_of_digits cut.1 digits some))
        | false ↦ written
      ]

  zero_is : (length left == 0) ≡ true → value_of cut.1 ≡ 0
  zero_is e = without_zeros-none cut.1 (sym is ∙ nil_of_length left e)

  pub number_left_out : (is_last : Bool) → (length left == 0) ≡ true → is_last ≡ true → ends_in_letter cut.0 ≡ true → [] ≡ number_text cut is_last
  number_left_out is_last e at_end letter =
      sym (ap (number_text cut) at_end ∙ ap (λ n. last_digits_of (cut.0, n)) (zero_is e) ∙ ap (λ v. cond v [] (48 ∷ [])) letter)

  pub number_zero : (is_last : Bool) → (length left == 0) ≡ true → (is_last ≡ false) ⊎ (ends_in_letter cut.0 ≡ false) → 48 ∷ [] ≡ number_text cut is_last
  number_zero is_last e other =
      elim other [
        | inl more ↦ sym (ap (number_text cut) more ∙ ap digits_of (zero_is e))
        | inr no_letter ↦ sym (ap (λ n. cond is_last (last_digits_of (cut.0, n)) (digits_of n)) (zero_is e) ∙ ap (λ v. cond is_last (cond v [] (48 ∷ [])) (48 ∷ [])) no_letter ∙ both_ways is_last (48 ∷ []))
      ]
    where
      both_ways : (v : Bool) (l : List ℕ) → cond v l l ≡ l
      both_ways true l = refl
      both_ways false l = refl

zero_value : (b : ℕ) (run : List ℕ) → IsTrue (is_ascii_digit b) → (value_of (b ∷ run) == 0) ≡ ((b == 48) && (value_of run == 0))
zero_value b run digit =
    by_zero (λ v. (value_of (b ∷ run) == 0) ≡ (v && (value_of run == 0))) b (λ is. ap (λ n. n == 0) (value_of-zero b run is))
    (λ other. let positive = first_positive b run digit other in ne_eqb (value_of (b ∷ run)) 0 (λ e. omega arith))

never : (v : Bool) → false ≡ (v && false)
never true = refl
never false = refl

-- a byte before a component: the whole is the revision 0 only if the byte is a zero and the component is
is_no_revision-with_digit : (b : ℕ) (text run : List ℕ) (cuts : List Cut) → IsTrue (is_ascii_digit b)
    → is_no_revision (parts_of_cuts (with_digit b text run cuts)) ≡ ((b == 48) && is_no_revision (parts_of_cuts ((text, run) ∷ cuts)))
is_no_revision-with_digit b [] run [] digit = zero_value b run digit
is_no_revision-with_digit b [] run (next ∷ cuts) digit = never (b == 48)
is_no_revision-with_digit b (c ∷ text) run [] digit =
    never (b == 48) ∙ ap (λ v. (b == 48) && (v && (value_of run == 0))) (sym (ne_eqb (length (c ∷ text)) 0 (λ e. omega arith)))
is_no_revision-with_digit b (c ∷ text) run (next ∷ cuts) digit = never (b == 48)

is_no_revision-with_other : (b : ℕ) (text run : List ℕ) (cuts : List Cut) → is_no_revision (parts_of_cuts ((b ∷ text, run) ∷ cuts)) ≡ false
is_no_revision-with_other b text run [] = ap (λ v. v && (value_of run == 0)) (ne_eqb (length (b ∷ text)) 0 (λ e. omega arith))
is_no_revision-with_other b text run (next ∷ cuts) = refl

not_zero : (b : ℕ) → is_ascii_digit b ≡ false → (b == 48) ≡ false
not_zero b other = ne_eqb b 48 (λ e. false≢true (sym other ∙ ap is_ascii_digit e))

is_no_revision-with_byte : (b : ℕ) (cuts : List Cut) → AreCuts cuts → is_no_revision (parts_of_cuts (with_byte b cuts)) ≡ ((b == 48) && is_no_revision (parts_of_cuts cuts))
is_no_revision-with_byte b [] are = absurd are
is_no_revision-with_byte b (cut ∷ cuts) are =
    elim (is_ascii_digit b) as (λ v. is_ascii_digit b ≡ v → is_no_revision (parts_of_cuts (cond v (with_digit b cut.0 cut.1 cuts) ((b ∷ cut.0, cut.1) ∷ cuts))) ≡ ((b == 48) && is_no_revision (parts_of_cuts (cut ∷ cuts)))) [
      | true ↦ λ h. is_no_revision-with_digit b cut.0 cut.1 cuts h
      | false ↦ λ h. is_no_revision-with_other b cut.0 cut.1 cuts ∙ ap (λ v. v && is_no_revision (parts_of_cuts (cut ∷ cuts))) (sym (not_zero b h))
    ] refl

-- A revision is that of an absent one exactly if nothing is left without its leading zeros.
pub is_no_revision-parts_of : (revision : List ℕ) → is_no_revision (parts_of revision) ≡ (length (without_zeros revision) == 0)
is_no_revision-parts_of [] = refl
is_no_revision-parts_of (b ∷ revision) =
    is_no_revision-with_byte b (cuts_of revision) (AreCuts-cuts_of revision) ∙ ap (λ v. (b == 48) && v) (is_no_revision-parts_of revision)
    ∙ by_zero (λ v. (v && (length (without_zeros revision) == 0)) ≡ (length (without_zeros (b ∷ revision)) == 0)) b (λ is. ap (λ l. length l == 0) (sym (without_zeros-zero b revision is)))
    (λ other. sym (ap (λ l. length l == 0) (without_zeros-other b revision other) ∙ ne_eqb (length (b ∷ revision)) 0 (λ e. omega arith)))

list_any-behind : (c : ℕ) (run others : List ℕ) → is_ascii_digit c ≡ false → IsDigits run → list_any (λ b. b == c) (run ++ others) ≡ list_any (λ b. b == c) others
list_any-behind c run others other digits =
    list_any-append (λ b. b == c) run others ∙ ap (λ v. v || list_any (λ b. b == c) others) (none_equal is_ascii_digit c other run digits)

list_any-cuts : (c : ℕ) (cuts : List Cut) → is_ascii_digit c ≡ false → AreCuts cuts → list_any (λ b. b == c) (component_text (parts_of_cuts cuts)) ≡ list_any (λ b. b == c) (joined cuts)
list_any-cuts c [] other are = absurd are
list_any-cuts c (cut ∷ []) other are =
    list_any-append (λ b. b == c) cut.0 (last_digits_of (part_of cut))
    ∙ ap (λ v. list_any (λ b. b == c) cut.0 || v) (none_equal is_ascii_digit c other (last_digits_of (part_of cut)) (IsDigits-last_digits_of (part_of cut)) ∙ sym (none_equal is_ascii_digit c other cut.1 are.1) ∙ ap (list_any (λ b. b == c)) (sym (append-nil cut.1)))
    ∙ sym (list_any-append (λ b. b == c) cut.0 (cut.1 ++ []))
list_any-cuts c (cut ∷ next ∷ cuts) other are =
    list_any-append (λ b. b == c) cut.0 (digits_of (value_of cut.1) ++ component_text (parts_of_cuts (next ∷ cuts)))
    ∙ ap (λ v. list_any (λ b. b == c) cut.0 || v)
    (list_any-behind c (digits_of (value_of cut.1)) (component_text (parts_of_cuts (next ∷ cuts))) other (IsDigits-digits_of (value_of cut.1))
    ∙ list_any-cuts c (next ∷ cuts) other are.4 ∙ sym (list_any-behind c cut.1 (joined (next ∷ cuts)) other are.1))
    ∙ sym (list_any-append (λ b. b == c) cut.0 (cut.1 ++ joined (next ∷ cuts)))

-- Of bytes that are no digits the canonical text of a component holds those that the component holds.
pub list_any-component_text : (c : ℕ) (text : List ℕ) → is_ascii_digit c ≡ false → list_any (λ b. b == c) (component_text (parts_of text)) ≡ list_any (λ b. b == c) text
list_any-component_text c text other = list_any-cuts c (cuts_of text) other (AreCuts-cuts_of text) ∙ ap (list_any (λ b. b == c)) (joined-cuts_of text)
