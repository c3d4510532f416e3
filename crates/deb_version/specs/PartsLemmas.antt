-- Every text has parts, and only those of `parts_of`.
use Rattle.std.proofs.Common.{◌≡◌, ◌≢◌, ℕ, true, false, cond, List, [], ◌∷◌, refl, sym, ap, ◌∙◌, IsTrue, IsFalse}
use Rattle.std.specs.Char.{is_ascii_digit}
use Rattle.deb_version.specs.Parts.{Cut, Part, joined, AreCuts, parts_of_cuts, HasParts, with_digit, with_byte, cuts_of, parts_of}

-- a list with a first element isn't empty
pub cons_not_nil : {X : Type 0} (x : X) (xs : List X) → (x ∷ xs) ≢ []
cons_not_nil x xs e = cc

joined-with_digit : (b : ℕ) (text run : List ℕ) (cuts : List Cut)
    → joined (with_digit b text run cuts) ≡ b ∷ joined ((text, run) ∷ cuts)
joined-with_digit b [] run cuts = refl
joined-with_digit b (c ∷ text) run cuts = refl

joined-with_byte : (b : ℕ) (cuts : List Cut) → joined (with_byte b cuts) ≡ b ∷ joined cuts
joined-with_byte b [] = refl
joined-with_byte b (cut ∷ cuts) =
    elim (is_ascii_digit b) as (λ v. joined (cond v (with_digit b cut.0 cut.1 cuts)
    ((b ∷ cut.0, cut.1) ∷ cuts)) ≡ b ∷ joined (cut ∷ cuts)) [
      | true ↦ joined-with_digit b cut.0 cut.1 cuts
      | false ↦ refl
    ]

-- the cuts of a text join to the text
pub joined-cuts_of : (text : List ℕ) → joined (cuts_of text) ≡ text
joined-cuts_of [] = refl
joined-cuts_of (b ∷ bs) = joined-with_byte b (cuts_of bs) ∙ ap (λ l. b ∷ l) (joined-cuts_of bs)

AreCuts-with_digit : (b : ℕ) (text run : List ℕ) (cuts : List Cut) → IsTrue (is_ascii_digit b)
    → AreCuts ((text, run) ∷ cuts) → AreCuts (with_digit b text run cuts)
AreCuts-with_digit b [] run [] d are = (are.0, (d, are.1))
AreCuts-with_digit b [] run (next ∷ cuts) d are =
    (are.0, (d, are.1), cons_not_nil b run, are.3, are.4)
AreCuts-with_digit b (c ∷ text) run [] d are =
    (tt, (d, tt), cons_not_nil b [], cons_not_nil c text, are)
AreCuts-with_digit b (c ∷ text) run (next ∷ cuts) d are =
    (tt, (d, tt), cons_not_nil b [], cons_not_nil c text, are)

-- a byte that isn't a digit may be before the first text
AreCuts-with_other : (b : ℕ) (text run : List ℕ) (cuts : List Cut) → IsFalse (is_ascii_digit b)
    → AreCuts ((text, run) ∷ cuts) → AreCuts ((b ∷ text, run) ∷ cuts)
AreCuts-with_other b text run [] d are = ((d, are.0), are.1)
AreCuts-with_other b text run (next ∷ cuts) d are = ((d, are.0), are.1, are.2, are.3, are.4)

AreCuts-with_byte : (b : ℕ) (cuts : List Cut) → AreCuts cuts → AreCuts (with_byte b cuts)
AreCuts-with_byte b [] are = absurd are
AreCuts-with_byte b (cut ∷ cuts) are =
    elim (is_ascii_digit b) as (λ v. is_ascii_digit b ≡ v → AreCuts
    (cond v (with_digit b cut.0 cut.1 cuts) ((b ∷ cut.0, cut.1) ∷ cuts))) [
      | true ↦ λ d. AreCuts-with_digit b cut.0 cut.1 cuts d are
      | false ↦ λ d. AreCuts-with_other b cut.0 cut.1 cuts d are
    ] refl

-- the cuts of a text are texts and runs in turns
pub AreCuts-cuts_of : (text : List ℕ) → AreCuts (cuts_of text)
AreCuts-cuts_of [] = (tt, tt)
AreCuts-cuts_of (b ∷ bs) = AreCuts-with_byte b (cuts_of bs) (AreCuts-cuts_of bs)

-- Every text has parts.
pub has_parts : (text : List ℕ) → HasParts text (parts_of text)
has_parts text = (cuts_of text, AreCuts-cuts_of text, sym (joined-cuts_of text), refl)

-- cuts of a text that begins with a text without digits, if they are the cuts of the text after it
one_cut_by_text : (text run : List ℕ) (cuts : List Cut)
    → (AreCuts (([], run) ∷ cuts) → cuts_of (joined (([], run) ∷ cuts)) ≡ ([], run) ∷ cuts)
    → AreCuts ((text, run) ∷ cuts) → cuts_of (joined ((text, run) ∷ cuts)) ≡ (text, run) ∷ cuts
one_cut_by_text [] run cuts behind are = behind are
one_cut_by_text (b ∷ text) run cuts behind are =
    ap (with_byte b) (one_cut_by_text text run cuts behind (later cuts are))
    ∙ ap (λ v. cond v (with_digit b text run cuts) ((b ∷ text, run) ∷ cuts)) (other cuts are)
  where
    later : (cs : List Cut) → AreCuts ((b ∷ text, run) ∷ cs) → AreCuts ((text, run) ∷ cs)
    later [] a = (a.0.1, a.1)
    later (next ∷ cs) a = (a.0.1, a.1, a.2, a.3, a.4)

    other : (cs : List Cut) → AreCuts ((b ∷ text, run) ∷ cs) → is_ascii_digit b ≡ false
    other [] a = a.0.0
    other (next ∷ cs) a = a.0.0

-- a digit before a cut whose text isn't empty makes a cut of its own
with_digit-text : (b : ℕ) (text run : List ℕ) (cuts : List Cut) → text ≢ []
    → with_digit b text run cuts ≡ ([], b ∷ []) ∷ (text, run) ∷ cuts
with_digit-text b [] run cuts some = absurd (some refl)
with_digit-text b (c ∷ text) run cuts some = refl

-- cuts of a text that begins with a run of digits
one_cut_by_run : (run : List ℕ) (cuts : List Cut) → (AreCuts cuts → cuts_of (joined cuts) ≡ cuts)
    → AreCuts (([], run) ∷ cuts) → cuts_of (joined (([], run) ∷ cuts)) ≡ ([], run) ∷ cuts
one_cut_by_run [] [] behind are = refl
one_cut_by_run [] (next ∷ cuts) behind are = absurd (are.2 refl)
one_cut_by_run (b ∷ run) [] behind are =
    ap (with_byte b) (one_cut_by_run run [] behind (are.0, are.1.1))
    ∙ ap (λ v. cond v (([], b ∷ run) ∷ []) ((b ∷ [], run) ∷ [])) are.1.0
one_cut_by_run (b ∷ []) (next ∷ cuts) behind are =
    ap (with_byte b) (behind are.4) ∙ ap (λ v. cond v (with_digit b next.0 next.1 cuts)
    ((b ∷ next.0, next.1) ∷ cuts)) are.1.0 ∙ with_digit-text b next.0 next.1 cuts are.3
one_cut_by_run (b ∷ c ∷ run) (next ∷ cuts) behind are =
    ap (with_byte b) (one_cut_by_run (c ∷ run) (next ∷ cuts) behind
    (are.0, are.1.1, cons_not_nil c run, are.3, are.4))
    ∙ ap (λ v. cond v (([], b ∷ c ∷ run) ∷ next ∷ cuts) ((b ∷ [], c ∷ run) ∷ next ∷ cuts)) are.1.0

cuts_of-joined : (cuts : List Cut) → AreCuts cuts → cuts_of (joined cuts) ≡ cuts
cuts_of-joined [] are = absurd are
cuts_of-joined (cut ∷ cuts) are =
    one_cut_by_text cut.0 cut.1 cuts (one_cut_by_run cut.1 cuts (cuts_of-joined cuts)) are

-- A text is cut in one way.
pub one_cut : (text : List ℕ) (cuts : List Cut) → AreCuts cuts → text ≡ joined cuts
    → cuts ≡ cuts_of text
one_cut text cuts are e = sym (cuts_of-joined cuts are) ∙ ap cuts_of (sym e)

-- A text has one list of parts.
pub one_parts : (text : List ℕ) (parts : List Part) → HasParts text parts → parts ≡ parts_of text
one_parts text parts h = h.3 ∙ ap parts_of_cuts (one_cut text h.0 h.1 h.2)
