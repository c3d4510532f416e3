-- What is left of a component that is its own canonical text, in each state of its reading.
use Rattle.deb_version.proofs.Common.{◌≡◌, ℕ, suc, ◌+◌, ◌-◌, ◌==◌, ◌&&◌, Bool, true, false, not, cond, List, [], ◌∷◌, ◌++◌, length, Some, refl, sym, ap, ◌∙◌, subst, arith, IsTrue, ◌⊎◌, inl, inr, is_ascii_digit, and_parts, append_assoc, length_push, eqb-true, ne_eqb, not-true, cons_not_nil, prefix_len, HasNoDigit, IsDigits, cuts_after, parts_of, is_revision_byte, component_text, ends_in_letter}
use Rattle.std.specs.Char.{is_ascii_alphabetic}
use Rattle.std.specs.List.{slice_get}
use Rattle.std.specs.Option.{option_map_or}
use Rattle.std.proofs.Math.Seq.{get_or-append_seam}
use Rattle.std.proofs.lemmas.Option.{slice_get-get_or}
use Rattle.deb_version.specs.Fronts.{is_text_byte, revision_front}
use Rattle.deb_version.specs.States.{leads, may_end}
use Rattle.deb_version.specs.declared.component.State.{State}
use Rattle.deb_version.specs.declared.component.State.TheVariants.{Letter, LetterZero, Number, Padded, Text, Zero}
use Rattle.deb_version.proofs.CanonicalComponent.{All-append}
use Rattle.deb_version.proofs.CanonicalCuts.{component_text-itself, number_as_spelled, number_text, rest_text}
use Rattle.deb_version.proofs.FirstCut.{cuts_of-run, cuts_of-text}
use Rattle.deb_version.proofs.Runs.{Stops}

abbrev pub IsCanonical : List ℕ → Type 0
IsCanonical bytes = component_text (parts_of bytes) ≡ bytes

-- more of the component begins with a text
abbrev GoesOn : List ℕ → Type 0
GoesOn [] = ⊥
GoesOn (b ∷ rest) = (is_ascii_digit b ≡ false) × IsCanonical (b ∷ rest)

-- what may follow a state, so that the whole is its own canonical text
abbrev pub Follows : State → List ℕ → Type 0
Follows Text rest = (text : List ℕ) → HasNoDigit text → ends_in_letter text ≡ false → IsCanonical (text ++ rest)
Follows Letter rest = (text : List ℕ) → HasNoDigit text → ends_in_letter text ≡ true → IsCanonical (text ++ rest)
Follows Zero rest = (rest ≡ []) ⊎ GoesOn rest
Follows LetterZero rest = GoesOn rest
Follows Number rest = (run : List ℕ) × (after : List ℕ) × IsDigits run × (rest ≡ run ++ after) × ((after ≡ []) ⊎ GoesOn after)
Follows Padded rest = ⊥

after_run : (after : List ℕ) → (after ≡ []) ⊎ GoesOn after → Stops is_ascii_digit after × (rest_text after ≡ after)
after_run [] behind = (tt, refl)
after_run (b ∷ after) (inl none) = absurd (cons_not_nil b after none)
after_run (b ∷ after) (inr more) = more

-- a text, a run that is spelled as its number, and what follows
whole : (text run after : List ℕ) → HasNoDigit text → IsDigits run → (run ≡ [] → after ≡ []) → (after ≡ []) ⊎ GoesOn after
    → number_text (text, run) (length after == 0) ≡ run → IsCanonical (text ++ (run ++ after))
whole text run after none digits ends behind number =
    component_text-itself (text ++ (run ++ after)) after (text, run)
    (cuts_of-text text (run ++ after) run (cuts_after after) none (cuts_of-run run after digits (after_run after behind).0 ends)) number (after_run after behind).1

number_follows : (text : List ℕ) (b : ℕ) (rest : List ℕ) → HasNoDigit text → IsTrue (is_ascii_digit b && not (b == 48)) → Follows Number rest → IsCanonical (text ++ (b ∷ rest))
number_follows text b rest none number follows =
    let first = and_parts (is_ascii_digit b) (not (b == 48)) number in
    let digits : IsDigits (b ∷ follows.0) = (first.0, follows.2) in
    subst (λ r. IsCanonical (text ++ (b ∷ r))) (sym follows.3)
    (whole text (b ∷ follows.0) follows.1 none digits (λ e. absurd (cons_not_nil b follows.0 e)) follows.4 (number_as_spelled text (b ∷ follows.0) b digits refl (not_zero first.1) (length follows.1 == 0)))
  where
    not_zero : IsTrue (not (b == 48)) → b ≡ 48 → ⊥
    not_zero other is = cc (is, other)

zero_follows : (text : List ℕ) (b : ℕ) (rest : List ℕ) → HasNoDigit text → IsTrue (b == 48) → (rest ≡ []) ⊎ GoesOn rest
    → number_text (text, 48 ∷ []) (length rest == 0) ≡ 48 ∷ [] → IsCanonical (text ++ (b ∷ rest))
zero_follows text b rest none zero behind number =
    subst (λ d. IsCanonical (text ++ (d ∷ rest))) (sym (eqb-true b 48 zero)) (whole text (48 ∷ []) rest none (refl, tt) (λ e. absurd (cons_not_nil 48 [] e)) behind number)

zero_after : (text : List ℕ) → ends_in_letter text ≡ false → (is_last : Bool) → number_text (text, 48 ∷ []) is_last ≡ 48 ∷ []
zero_after text no_letter true = ap (λ v. cond v [] (48 ∷ [])) no_letter
zero_after text no_letter false = refl

zero_before : (text rest : List ℕ) → GoesOn rest → number_text (text, 48 ∷ []) (length rest == 0) ≡ 48 ∷ []
zero_before text [] more = absurd more
zero_before text (b ∷ rest) more = ap (number_text (text, 48 ∷ [])) (ne_eqb (length (b ∷ rest)) 0 (λ e. cons_not_nil b rest (absurd (omega (arith, e)))))

ends_in : (text : List ℕ) (b : ℕ) → ends_in_letter (text ++ (b ∷ [])) ≡ is_ascii_alphabetic b
ends_in text b =
    let whole = length_push text b in
    let at : length (text ++ (b ∷ [])) - 1 ≡ length text = omega (arith, whole) in
    let last = slice_get-get_or (text ++ (b ∷ [])) (length text) b (omega (arith, whole)) ∙ ap Some (get_or-append_seam text b [] b) in
    ap (λ i. option_map_or is_ascii_alphabetic (slice_get (text ++ (b ∷ [])) i) false) at ∙ ap (λ o. option_map_or is_ascii_alphabetic o false) last

-- one more byte of a text
text_longer : (b : ℕ) (rest : List ℕ) (letter : Bool) → is_ascii_digit b ≡ false → is_ascii_alphabetic b ≡ letter
    → ((text : List ℕ) → HasNoDigit text → ends_in_letter text ≡ letter → IsCanonical (text ++ rest)) → (text : List ℕ) → HasNoDigit text → IsCanonical (text ++ (b ∷ rest))
text_longer b rest letter other is follows text none =
    subst IsCanonical (append_assoc text (b ∷ []) rest) (follows (text ++ (b ∷ [])) (All-append _ text (b ∷ []) none (other, tt)) (ends_in text b ∙ is))

text_follows : (from : State) (b : ℕ) (rest : List ℕ) → IsTrue (leads from 46 Text) → is_ascii_digit b ≡ false
    → ((text : List ℕ) → HasNoDigit text → IsCanonical (text ++ (b ∷ rest))) → Follows from (b ∷ rest)
text_follows Text b rest ok other longer = λ text none ends. longer text none
text_follows Letter b rest ok other longer = λ text none ends. longer text none
text_follows Zero b rest ok other longer = inr (other, longer [] tt)
text_follows LetterZero b rest ok other longer = (other, longer [] tt)
text_follows Number b rest ok other longer = ([], b ∷ rest, tt, refl, inr (other, longer [] tt))
text_follows Padded b rest ok other longer = cc ok

text_other : (b : ℕ) → IsTrue (is_text_byte b) → is_ascii_digit b ≡ false
text_other b is = not-true (is_ascii_digit b) (and_parts (is_revision_byte b) (not (is_ascii_digit b)) is).1

pub step : (from : State) (b : ℕ) (to : State) (rest : List ℕ) → IsTrue (leads from b to) → Follows to rest → Follows from (b ∷ rest)
step from b Padded rest e follows = absurd follows
step Padded b to rest e follows = cc e
step Text b Zero rest e follows = λ text none ends. zero_follows text b rest none e follows (zero_after text ends (length rest == 0))
step Letter b LetterZero rest e follows = λ text none ends. zero_follows text b rest none e (inr follows) (zero_before text rest follows)
step Text b Number rest e follows = λ text none ends. number_follows text b rest none e follows
step Letter b Number rest e follows = λ text none ends. number_follows text b rest none e follows
step Number b Number rest e follows = (b ∷ follows.0, follows.1, (e, follows.2), ap (λ r. b ∷ r) follows.3, follows.4)
step from b Text rest e follows =
    let both = and_parts (is_text_byte b) (not (is_ascii_alphabetic b)) e in
    text_follows from b rest refl (text_other b both.0) (text_longer b rest false (text_other b both.0) (not-true (is_ascii_alphabetic b) both.1) follows)
step from b Letter rest e follows =
    let both = and_parts (is_text_byte b) (is_ascii_alphabetic b) e in
    text_follows from b rest refl (text_other b both.0) (text_longer b rest true (text_other b both.0) both.1 follows)
step from b to rest e follows = cc e

pub ended : (state : State) → may_end state ≡ true → Follows state []
ended Letter e = λ text none ends. whole text [] [] none tt (λ _. refl) (inl refl) (ap (λ v. cond v [] (48 ∷ [])) ends)
ended Zero e = inl refl
ended Number e = ([], [], tt, refl, inl refl)
ended state e = cc e

pub front_longer : (b : ℕ) (after : List ℕ) → IsTrue (is_revision_byte b) → revision_front (b ∷ after) ≡ b ∷ revision_front after
front_longer b after passes =
    let more : 1 + prefix_len is_revision_byte after ≡ suc (prefix_len is_revision_byte after) = omega arith in
    rw (passes, more) refl
