-- The text of chosen paragraphs, part by part.
use Rattle.std.proofs.Common.{◌≡◌, ℕ, zero, suc, ◌+◌, ◌≤◌, ◌==◌, ◌||◌, Bool, true, false, cond, List, [], ◌∷◌, ◌++◌, length, Option, Some, slice_get, Result, Ok, Err, refl, sym, ap, ◌∙◌, append_assoc, arith}
use Rattle.std.proofs.lemmas.Bool.{eqb-true}
use Rattle.std.specs.Io.KnownBytes.{Appends}
use Rattle.std.proofs.KnownBytes.{Appends-trans}
use Rattle.deb_base.specs.Bodies.{newline, pieces_of, with_byte}
use Rattle.deb_base.specs.Devices.{AppendsFront, Puts}
use Rattle.deb_base.specs.declared.fault.Fault.{Fault}
use Rattle.deb_base.proofs.Writes.{AppendsFront-more, AppendsFront-then}
use Rattle.deb_syntax.specs.Lines.{Paragraph, with_newlines}
use Rattle.deb_select.specs.Written.{gap, has_some, written_after}

or-false : (b : Bool) → b ≡ (b || false)
or-false true = refl
or-false false = refl

or-true : (b : Bool) → true ≡ (b || true)
or-true true = refl
or-true false = refl

-- the text of two parts
pub written_after-append : (begun : Bool) (a b : List Paragraph) → written_after begun (a ++ b) ≡ written_after begun a ++ written_after (begun || has_some a) b
written_after-append begun [] b = ap (λ t. written_after t b) (or-false begun)
written_after-append begun (p ∷ a) b =
    ap (λ text. gap begun ++ (with_newlines p.lines ++ text)) (written_after-append true a b)
    ∙ ap (λ text. gap begun ++ text) (sym (append_assoc (with_newlines p.lines) (written_after true a) (written_after true b)))
    ∙ sym (append_assoc (gap begun) (with_newlines p.lines ++ written_after true a) (written_after true b))
    ∙ ap (λ t. written_after begun (p ∷ a) ++ written_after t b) (or-true begun)

-- an element is within the list
pub within : {X : Type 0} (xs : List X) (i : ℕ) (x : X) → slice_get xs i ≡ Some x → i + 1 ≤ length xs
within [] i x at = absurd (cc)
within (y ∷ xs) zero x at = omega arith
within (y ∷ xs) (suc i) x at = omega (arith, within xs i x at)

-- the bytes of lines that are the pieces of a text
ended_byte : (b : ℕ) (text : List ℕ) → with_newlines (with_byte b (pieces_of text)) ≡ b ∷ with_newlines (pieces_of text)
ended_byte b text = go (pieces_of text) (some text)
  where
    IsThere : List (List ℕ) → Type 0
    IsThere [] = ⊥
    IsThere (line ∷ lines) = Unit {0}

    there : (b : ℕ) (lines : List (List ℕ)) → IsThere (with_byte b lines)
    there b [] = tt
    there b (line ∷ lines) = tt

    some : (text : List ℕ) → IsThere (pieces_of text)
    some [] = tt
    some (c ∷ cs) = one (c == newline)
      where
        one : (t : Bool) → IsThere (cond t ([] ∷ pieces_of cs) (with_byte c (pieces_of cs)))
        one true = tt
        one false = there c (pieces_of cs)

    go : (lines : List (List ℕ)) → IsThere lines → with_newlines (with_byte b lines) ≡ b ∷ with_newlines lines
    go [] is = absurd is
    go (line ∷ lines) is = refl

pub ended_pieces : (text : List ℕ) → with_newlines (pieces_of text) ≡ text ++ newline ∷ []
ended_pieces [] = refl
ended_pieces (b ∷ bs) = go (b == newline) refl (ended_pieces bs)
  where
    go : (t : Bool) → (b == newline) ≡ t → with_newlines (pieces_of bs) ≡ bs ++ newline ∷ [] → with_newlines (cond t ([] ∷ pieces_of bs) (with_byte b (pieces_of bs))) ≡ b ∷ (bs ++ newline ∷ [])
    go true is rest = ap (λ text. newline ∷ text) rest ∙ ap (λ c. c ∷ (bs ++ newline ∷ [])) (sym (eqb-true b newline is))
    go false is rest = ended_byte b bs ∙ ap (λ text. b ∷ text) rest

-- three writes one after another, of which the first two were whole
module _ (a b c : Option (List ℕ)) (first second third : List ℕ) (one : Appends a b first) where
  pub puts_second : AppendsFront b c second → AppendsFront a c (first ++ (second ++ third))
  puts_second front = AppendsFront-then a b c first (second ++ third) one (AppendsFront-more b c second third front)

  pub puts_third : (d : Option (List ℕ)) (r : Result (Unit {0}) Fault) → Appends b c second → Puts c d r third → Puts a d r (first ++ (second ++ third))
  puts_third d (Ok done) two puts = Appends-trans a b d first (second ++ third) one (Appends-trans b c d second third two puts)
  puts_third d (Err fault) two puts = AppendsFront-then a b d first (second ++ third) one (AppendsFront-then b c d second third two puts)
