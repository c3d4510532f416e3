-- The cuts of a component, from the left: a text without digits, a run of digits, and the cuts of what follows.
use Rattle.deb_version.proofs.Common.{◌≡◌, ◌≢◌, ℕ, ◌-◌, ◌≤◌, Bool, true, false, cond, not, List, [], ◌∷◌, ◌++◌, length, take, drop, position, unwrap_or, refl, sym, ap, ◌∙◌, inl, inr, IsTrue, IsFalse, arith, is_ascii_digit, list_all, position_or_len, cases_Bool, true≢false, take-append-drop, Cut, AreCuts, HasNoDigit, IsDigits, with_digit, with_byte, cuts_of, cuts_after, AreCuts-cuts_of, cons_not_nil}
use Rattle.std.proofs.lemmas.List.{length-drop}
use Rattle.deb_version.proofs.FirstPlace.{StartsWith, before_place, first_place, from_place, place_here, place_later}
use Rattle.deb_version.proofs.ByteLemmas.{all_pass-test}
use Rattle.deb_version.proofs.Runs.{Stops}

-- a byte that isn't a digit
abbrev pub is_other : ℕ → Bool
is_other b = not (is_ascii_digit b)

-- the run of digits that a list begins with, and what follows it
abbrev pub run_of : List ℕ → List ℕ
run_of bytes = take (position_or_len is_other bytes) bytes

abbrev pub after_run : List ℕ → List ℕ
after_run bytes = drop (position_or_len is_other bytes) bytes

-- the text without digits that a list begins with, and what follows it
abbrev pub text_of : List ℕ → List ℕ
text_of bytes = take (position_or_len is_ascii_digit bytes) bytes

abbrev pub after_text : List ℕ → List ℕ
after_text bytes = drop (position_or_len is_ascii_digit bytes) bytes

-- a list that is empty or begins with no digit
abbrev pub StartsWithOther : List ℕ → Type 0
StartsWithOther bytes = Stops is_ascii_digit bytes

-- a text before cuts, if the first cut has none
pub cuts_of-text : (text rest run : List ℕ) (cuts : List Cut) → HasNoDigit text → cuts_of rest ≡ ([], run) ∷ cuts → cuts_of (text ++ rest) ≡ (text, run) ∷ cuts
cuts_of-text [] rest run cuts other e = e
cuts_of-text (b ∷ text) rest run cuts other e =
    ap (with_byte b) (cuts_of-text text rest run cuts other.1 e) ∙ ap (λ v. cond v (with_digit b text run cuts) ((b ∷ text, run) ∷ cuts)) other.0

-- a byte that isn't a digit is the first of the first text
first_text : (b : ℕ) (bs : List ℕ) → is_ascii_digit b ≡ false → (text : List ℕ) × (run : List ℕ) × (cuts : List Cut) × (cuts_of (b ∷ bs) ≡ (b ∷ text, run) ∷ cuts)
first_text b bs other = shape (cuts_of bs) (AreCuts-cuts_of bs)
  where
    shape : (cs : List Cut) → AreCuts cs → (text : List ℕ) × (run : List ℕ) × (cuts : List Cut) × (with_byte b cs ≡ (b ∷ text, run) ∷ cuts)
    shape [] are = absurd are
    shape (cut ∷ cuts) are = (cut.0, cut.1, cuts, ap (λ v. cond v (with_digit b cut.0 cut.1 cuts) ((b ∷ cut.0, cut.1) ∷ cuts)) other)

-- one digit before what begins with no digit
one_digit : (b : ℕ) (rest : List ℕ) → is_ascii_digit b ≡ true → StartsWithOther rest → cuts_of (b ∷ rest) ≡ ([], b ∷ []) ∷ cuts_after rest
one_digit b [] digit other = ap (λ v. cond v (([], b ∷ []) ∷ []) ((b ∷ [], []) ∷ [])) digit
one_digit b (c ∷ rest) digit other =
    let first = first_text c rest other in
    ap (with_byte b) first.3
    ∙ ap (λ v. cond v (([], b ∷ []) ∷ (c ∷ first.0, first.1) ∷ first.2) ((b ∷ c ∷ first.0, first.1) ∷ first.2)) digit
    ∙ ap (λ l. ([], b ∷ []) ∷ l) (sym first.3)

-- a run of digits before what begins with no digit
pub cuts_of-run : (run rest : List ℕ) → IsDigits run → StartsWithOther rest → (run ≡ [] → rest ≡ []) → cuts_of (run ++ rest) ≡ ([], run) ∷ cuts_after rest
cuts_of-run [] [] digits other ends = refl
cuts_of-run [] (b ∷ rest) digits other ends = cc (ends refl)
cuts_of-run (b ∷ []) rest digits other ends = one_digit b rest digits.0 other
cuts_of-run (b ∷ c ∷ run) rest digits other ends =
    ap (with_byte b) (cuts_of-run (c ∷ run) rest digits.1 other (λ e. cc e))
    ∙ ap (λ v. cond v (([], b ∷ c ∷ run) ∷ cuts_after rest) ((b ∷ [], c ∷ run) ∷ cuts_after rest)) digits.0

digit_of : (b : ℕ) → is_other b ≡ false → IsTrue (is_ascii_digit b)
digit_of b e = elim (cases_Bool (is_ascii_digit b)) [ inl digit ↦ digit | inr other ↦ absurd (true≢false (sym (ap not other) ∙ e)) ]

other_first : (bytes : List ℕ) → StartsWith is_other bytes → StartsWithOther bytes
other_first [] e = tt
other_first (b ∷ bytes) e = elim (cases_Bool (is_ascii_digit b)) [ inl digit ↦ absurd (true≢false (sym e ∙ ap not digit)) | inr other ↦ other ]

IsDigits-run_of : (bytes : List ℕ) → IsDigits (run_of bytes)
IsDigits-run_of = before_place is_other (λ b. IsTrue (is_ascii_digit b)) digit_of

-- the cuts of what begins with a run of digits
cuts_of-digits : (bytes : List ℕ) → StartsWith is_ascii_digit bytes → cuts_of bytes ≡ ([], run_of bytes) ∷ cuts_after (after_run bytes)
cuts_of-digits [] starts = refl
cuts_of-digits (b ∷ bytes) starts =
    let some : run_of (b ∷ bytes) ≢ [] =
    λ e. cons_not_nil b (run_of bytes) (ap (λ k. take k (b ∷ bytes)) (sym (place_later is_other b bytes (ap not starts))) ∙ e) in
    ap cuts_of (sym (take-append-drop (position_or_len is_other (b ∷ bytes)) (b ∷ bytes)))
    ∙ cuts_of-run (run_of (b ∷ bytes)) (after_run (b ∷ bytes)) (IsDigits-run_of (b ∷ bytes)) (other_first (after_run (b ∷ bytes)) (from_place is_other (b ∷ bytes))) (λ e. absurd (some e))

-- what follows the first cut is shorter, unless the component is empty
after-shorter : (bytes : List ℕ) → length (after_run (after_text bytes)) ≤ length bytes - 1
after-shorter [] = omega arith
after-shorter (b ∷ bytes) =
    elim (cases_Bool (is_ascii_digit b)) [
      | inl digit ↦
          rw (place_here is_ascii_digit b bytes digit, place_later is_other b bytes (ap not digit)) (omega (arith, length-drop (position_or_len is_other bytes) bytes))
      | inr other ↦
          let digits = after_text bytes in
          rw (place_later is_ascii_digit b bytes other) (omega (arith, length-drop (position_or_len is_other digits) digits, length-drop (position_or_len is_ascii_digit bytes) bytes))
    ]

-- a text, a run and what follows are the first cut of a component
pub record IsFirstCut (bytes text run after : List ℕ) : Type 0 where
  pub cuts : cuts_of bytes ≡ (text, run) ∷ cuts_after after
  pub run_digits : IsTrue (list_all is_ascii_digit run)
  pub shorter : length after ≤ length bytes - 1

first_of : (bytes : List ℕ) → IsFirstCut bytes (text_of bytes) (run_of (after_text bytes)) (after_run (after_text bytes))
first_of bytes = record {
  cuts = ap cuts_of (sym (take-append-drop (position_or_len is_ascii_digit bytes) bytes))
      ∙ cuts_of-text (text_of bytes) (after_text bytes) (run_of (after_text bytes)) _ (before_place is_ascii_digit (λ b. IsFalse (is_ascii_digit b)) (λ b e. e) bytes)
      (cuts_of-digits (after_text bytes) (from_place is_ascii_digit bytes));
  run_digits = all_pass-test is_ascii_digit (run_of (after_text bytes)) (IsDigits-run_of (after_text bytes));
  shorter = after-shorter bytes;
}

-- So they are if the text is cut off before the first digit, and the run before the next byte that is none.
pub first_cut : (bytes text digits run after : List ℕ) (n m : ℕ)
    → n ≡ unwrap_or (position is_ascii_digit bytes) (length bytes) → text ≡ take n bytes → digits ≡ drop n bytes
    → m ≡ unwrap_or (position is_other digits) (length digits) → run ≡ take m digits → after ≡ drop m digits
    → IsFirstCut bytes text run after
first_cut bytes text digits run after n m n-is text-is digits-is m-is run-is after-is =
    let in_text : n ≡ position_or_len is_ascii_digit bytes = n-is ∙ first_place is_ascii_digit bytes in
    let in_run : m ≡ position_or_len is_other digits = m-is ∙ first_place is_other digits in
    let digits-at : digits ≡ after_text bytes = digits-is ∙ ap (λ k. drop k bytes) in_text in
    let text-at : text ≡ text_of bytes = text-is ∙ ap (λ k. take k bytes) in_text in
    let run-at : run ≡ run_of (after_text bytes) = run-is ∙ ap (λ k. take k digits) in_run ∙ ap run_of digits-at in
    let after-at : after ≡ after_run (after_text bytes) = after-is ∙ ap (λ k. drop k digits) in_run ∙ ap after_run digits-at in
    rw (text-at, run-at, after-at) (first_of bytes)
