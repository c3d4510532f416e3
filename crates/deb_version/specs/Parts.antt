-- The parts of an upstream version or a revision: texts without digits and numbers, in turns.
-- deb-version(7), "Sorting algorithm"; Debian Policy 5.6.12.
use Rattle.std.specs.Prelude.{◌≡◌, ◌≢◌, ℕ, ◌+◌, ◌-◌, ◌*◌, ◌^◌, cond, List, [], ◌∷◌, ◌++◌, map, refl, IsTrue, IsFalse, codes}
use Rattle.std.specs.Char.{is_ascii_digit}
use Rattle.std.specs.List.{AllByRecursion}

-- a text without digits, and the run of digits that follows it
abbrev pub Cut : Type 0
Cut = List ℕ × List ℕ

-- a text without digits, and the number that follows it
abbrev pub Part : Type 0
Part = List ℕ × ℕ

-- the value of a run of decimal digits after digits of value n, the most significant first
abbrev pub value_after : ℕ → List ℕ → ℕ
value_after n [] = n
value_after n (digit ∷ digits) = value_after (10 * n + (digit - 48)) digits

-- the value of a run of decimal digits; of an empty run it is 0
abbrev pub value_of : List ℕ → ℕ
value_of digits = value_after 0 digits

-- the text that cuts are cuts of
abbrev pub joined : List Cut → List ℕ
joined [] = []
joined (cut ∷ cuts) = cut.0 ++ (cut.1 ++ joined cuts)

-- no byte of the text is a digit; each is one
abbrev pub HasNoDigit : List ℕ → Type 0
HasNoDigit text = AllByRecursion (λ b. IsFalse (is_ascii_digit b)) text

abbrev pub IsDigits : List ℕ → Type 0
IsDigits run = AllByRecursion (λ b. IsTrue (is_ascii_digit b)) run

-- texts and runs in turns: at least one of each; each text but the first is nonempty, and so is
-- each run but the last
abbrev pub AreCuts : List Cut → Type 0
AreCuts [] = ⊥
AreCuts (cut ∷ []) = HasNoDigit cut.0 × IsDigits cut.1
AreCuts (cut ∷ next ∷ cuts) =
    HasNoDigit cut.0 × IsDigits cut.1 × (cut.1 ≢ []) × (next.0 ≢ []) × AreCuts (next ∷ cuts)

-- a run of digits counts as its number
abbrev pub part_of : Cut → Part
part_of cut = (cut.0, value_of cut.1)

abbrev pub parts_of_cuts : List Cut → List Part
parts_of_cuts cuts = map part_of cuts

-- The text has these parts.
abbrev pub HasParts : List ℕ → List Part → Type 0
HasParts text parts =
    (cuts : List Cut) × AreCuts cuts × (text ≡ joined cuts) × (parts ≡ parts_of_cuts cuts)

-- The cuts of a text are found from its end: `cuts_of` puts its last byte before the cuts of
-- the empty text, and so on, up to its first byte. A digit before a cut, of a text and a run,
-- and of more cuts: where the cut's text is empty, the digit is right before its run and joins
-- it (`1` before `2a` gives `12a`); else it is before a text, and so is a run of its own after
-- an empty text (`1` before `a2`). `AreCuts` says what comes out, and the law that a text has one
-- list of parts says that nothing else may.
abbrev pub with_digit : ℕ → List ℕ → List ℕ → List Cut → List Cut
with_digit b [] run cuts = ([], b ∷ run) ∷ cuts
with_digit b (c ∷ text) run cuts = ([], b ∷ []) ∷ (c ∷ text, run) ∷ cuts

-- a byte before cuts: a digit as above; any other byte joins the text of the first cut
abbrev pub with_byte : ℕ → List Cut → List Cut
with_byte b [] = (b ∷ [], []) ∷ []
with_byte b (cut ∷ cuts) =
    cond (is_ascii_digit b) (with_digit b cut.0 cut.1 cuts) ((b ∷ cut.0, cut.1) ∷ cuts)

-- the one way to cut a text
abbrev pub cuts_of : List ℕ → List Cut
cuts_of [] = ([], []) ∷ []
cuts_of (b ∷ bs) = with_byte b (cuts_of bs)

-- the parts of a text: the one list that HasParts holds of
abbrev pub parts_of : List ℕ → List Part
parts_of text = parts_of_cuts (cuts_of text)

-- The meaning of a version: the epoch's value, and the parts of its upstream version and of its
-- revision. Debian Policy 5.6.12.
pub record Meaning : Type 0 where
  pub epoch : ℕ
  pub upstream : List Part
  pub revision : List Part

-- what an absent revision means, and the revision 0
abbrev pub no_revision : List Part
no_revision = ([], 0) ∷ []

-- 1.0~rc01, 1a, the empty text; a text and a digit before a text and before a run; every digit, and
-- the bytes beside them
worked-dots : parts_of (codes "1.0~rc01") ≡ ([], 1) ∷ (codes ".", 0) ∷ (codes "~rc", 1) ∷ []
worked-dots = refl

worked-letter : parts_of (codes "1a") ≡ ([], 1) ∷ (codes "a", 0) ∷ []
worked-letter = refl

worked-empty : parts_of [] ≡ no_revision
worked-empty = refl

worked-text_first : parts_of (codes "a1b") ≡ (codes "a", 1) ∷ (codes "b", 0) ∷ []
worked-text_first = refl

worked-digit_before_text : cuts_of (codes "1a2") ≡ ([], codes "1") ∷ (codes "a", codes "2") ∷ []
worked-digit_before_text = refl

worked-digit_before_run : cuts_of (codes "12a") ≡ ([], codes "12") ∷ (codes "a", []) ∷ []
worked-digit_before_run = refl

worked-digits : parts_of (codes "9876543210") ≡ ([], 9876543210) ∷ []
worked-digits = refl

worked-no_digits : parts_of (codes "/:") ≡ (codes "/:", 0) ∷ []
worked-no_digits = refl

cuts_joined : (joined [] ≡ [])
    × (joined ((codes "a", codes "1") ∷ (codes ".", codes "02") ∷ []) ≡ codes "a1.02")
cuts_joined = (refl, refl)

-- numbers of any size: none wraps at a machine's limit
worked-long_numbers : parts_of
    (codes "18446744073709551616.0340282366920938463463374607431768211456")
    ≡ ([], 2 ^ 64) ∷ (codes ".", 2 ^ 128) ∷ []
worked-long_numbers = refl
