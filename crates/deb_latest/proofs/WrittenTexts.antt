-- The text of chosen paragraphs, part by part.
use Rattle.std.proofs.Common.{◌≡◌, ℕ, ◌+◌, ◌==◌, ◌||◌, Bool, true, false, cond, eqb, List, [], ◌∷◌, ◌++◌, length, length-append, Option, Result, Ok, Err, refl, sym, ap, ◌∙◌, append_assoc, arith}
use Rattle.std.proofs.lemmas.Bool.{eqb-true}
use Rattle.std.specs.Io.KnownBytes.{Appends}
use Rattle.std.specs.List.{list_any}
use Rattle.std.proofs.KnownBytes.{Appends-trans}
use Rattle.deb_base.specs.Bodies.{newline, pieces_of, with_byte}
use Rattle.deb_base.specs.Devices.{AppendsFront, Puts}
use Rattle.deb_base.specs.declared.fault.Fault.{Fault}
use Rattle.deb_base.proofs.Writes.{AppendsFront-more, AppendsFront-then}
use Rattle.deb_syntax.specs.Lines.{Paragraph, with_newlines}
use Rattle.deb_latest.specs.Written.{TextGrows, chosen, chosen_from, gap, is_some, text_after, written_after}

-- the chosen ones of two parts
pub chosen_from-append : {X : Type 0} (numbers : List ℕ) (n : ℕ) (a b : List X) → chosen_from numbers n (a ++ b) ≡ chosen_from numbers n a ++ chosen_from numbers (n + length a) b
chosen_from-append numbers n [] b = ap (λ k. chosen_from numbers k b) (omega arith)
chosen_from-append numbers n (p ∷ a) b = go (list_any (eqb (n + 1)) numbers) (chosen_from-append numbers (n + 1) a b ∙ ap (λ k. chosen_from numbers (n + 1) a ++ chosen_from numbers k b) count)
  where
    count : n + 1 + length a ≡ n + length (p ∷ a)
    count = omega arith

    go : (t : Bool) → chosen_from numbers (n + 1) (a ++ b) ≡ chosen_from numbers (n + 1) a ++ chosen_from numbers (n + length (p ∷ a)) b
        → cond t (p ∷ chosen_from numbers (n + 1) (a ++ b)) (chosen_from numbers (n + 1) (a ++ b)) ≡ cond t (p ∷ chosen_from numbers (n + 1) a) (chosen_from numbers (n + 1) a) ++ chosen_from numbers (n + length (p ∷ a)) b
    go true is = ap (λ ps. p ∷ ps) is
    go false is = is

or-false : (b : Bool) → b ≡ (b || false)
or-false true = refl
or-false false = refl

or-true : (b : Bool) → true ≡ (b || true)
or-true true = refl
or-true false = refl

-- their texts
written_after-append : (begun : Bool) (a b : List Paragraph) → written_after begun (a ++ b) ≡ written_after begun a ++ written_after (begun || is_some a) b
written_after-append begun [] b = ap (λ t. written_after t b) (or-false begun)
written_after-append begun (p ∷ a) b =
    ap (λ text. gap begun ++ (with_newlines p.lines ++ text)) (written_after-append true a b)
    ∙ ap (λ text. gap begun ++ text) (sym (append_assoc (with_newlines p.lines) (written_after true a) (written_after true b)))
    ∙ sym (append_assoc (gap begun) (with_newlines p.lines ++ written_after true a) (written_after true b))
    ∙ ap (λ t. written_after begun (p ∷ a) ++ written_after t b) (or-true begun)

is_some-append : (a b : List Paragraph) → is_some (a ++ b) ≡ (is_some a || is_some b)
is_some-append [] b = refl
is_some-append (p ∷ a) b = refl

none_before : (n : ℕ) → 0 + n ≡ n
none_before n = omega arith

-- the chosen ones of two parts of all
pub chosen-append : {X : Type 0} (numbers : List ℕ) (a b : List X) → chosen numbers (a ++ b) ≡ chosen numbers a ++ chosen_from numbers (length a) b
chosen-append numbers a b = chosen_from-append numbers 0 a b ∙ ap (λ n. chosen numbers a ++ chosen_from numbers n b) (none_before (length a))

pub text_grows : TextGrows
text_grows numbers before paragraphs =
    ap (written_after false) (chosen-append numbers before paragraphs)
    ∙ written_after-append false (chosen numbers before) (chosen_from numbers (length before) paragraphs)

-- whether one was written, after further paragraphs
pub is_some-more : (numbers : List ℕ) (before a : List Paragraph) → is_some (chosen numbers (before ++ a)) ≡ (is_some (chosen numbers before) || is_some (chosen_from numbers (length before) a))
is_some-more numbers before a = ap is_some (chosen-append numbers before a) ∙ is_some-append (chosen numbers before) (chosen_from numbers (length before) a)

-- what is written of two further parts
pub text_after-append : (numbers : List ℕ) (before a b : List Paragraph) → text_after numbers before (a ++ b) ≡ text_after numbers before a ++ text_after numbers (before ++ a) b
text_after-append numbers before a b =
    let begun = is_some (chosen numbers before) in
    let some = chosen_from numbers (length before) a in
    ap (written_after begun) (chosen_from-append numbers (length before) a b)
    ∙ written_after-append begun some (chosen_from numbers (length before + length a) b)
    ∙ ap (λ t. written_after begun some ++ written_after t (chosen_from numbers (length before + length a) b)) (sym (is_some-more numbers before a))
    ∙ ap (λ n. written_after begun some ++ written_after (is_some (chosen numbers (before ++ a))) (chosen_from numbers n b)) (sym (length-append before a))

-- nothing is written of nothing
pub text_after-none : (numbers : List ℕ) (before : List Paragraph) → text_after numbers before [] ≡ []
text_after-none numbers before = refl

-- the bytes of lines that are the pieces of a text
ended_byte : (b : ℕ) (text : List ℕ) → with_newlines (with_byte b (pieces_of text)) ≡ b ∷ with_newlines (pieces_of text)
ended_byte b text = go (pieces_of text) (some text)
  where
    IsThere : List (List ℕ) → Type 0
    IsThere [] = ⊥
    IsThere (line ∷ lines) = Unit {0}

    there : (b : ℕ) (lines : List (List ℕ)) → IsThere (with_byte b lines)
    there b [] = tt
    there b (line ∷ lines) = tt

    some : (text : List ℕ) → IsThere (pieces_of text)
    some [] = tt
    some (c ∷ cs) = one (c == newline)
      where
        one : (t : Bool) → IsThere (cond t ([] ∷ pieces_of cs) (with_byte c (pieces_of cs)))
        one true = tt
        one false = there c (pieces_of cs)

    go : (lines : List (List ℕ)) → IsThere lines → with_newlines (with_byte b lines) ≡ b ∷ with_newlines lines
    go [] is = absurd is
    go (line ∷ lines) is = refl

pub ended_pieces : (text : List ℕ) → with_newlines (pieces_of text) ≡ text ++ newline ∷ []
ended_pieces [] = refl
ended_pieces (b ∷ bs) = go (b == newline) refl (ended_pieces bs)
  where
    go : (t : Bool) → (b == newline) ≡ t → with_newlines (pieces_of bs) ≡ bs ++ newline ∷ [] → with_newlines (cond t ([] ∷ pieces_of bs) (with_byte b (pieces_of bs))) ≡ b ∷ (bs ++ newline ∷ [])
    go true is rest = ap (λ text. newline ∷ text) rest ∙ ap (λ c. c ∷ (bs ++ newline ∷ [])) (sym (eqb-true b newline is))
    go false is rest = ended_byte b bs ∙ ap (λ text. b ∷ text) rest

-- three writes one after another, of which the first two were whole
module _ (a b c : Option (List ℕ)) (first second third : List ℕ) (one : Appends a b first) where
  pub puts_second : AppendsFront b c second → AppendsFront a c (first ++ (second ++ third))
  puts_second front = AppendsFront-then a b c first (second ++ third) one (AppendsFront-more b c second third front)

  pub puts_third : (d : Option (List ℕ)) (r : Result (Unit {0}) Fault) → Appends b c second → Puts c d r third → Puts a d r (first ++ (second ++ third))
  puts_third d (Ok done) two puts = Appends-trans a b d first (second ++ third) one (Appends-trans b c d second third two puts)
  puts_third d (Err fault) two puts = AppendsFront-then a b d first (second ++ third) one (AppendsFront-then b c d second third two puts)
