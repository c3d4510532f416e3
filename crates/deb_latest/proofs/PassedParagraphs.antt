-- What holds once a paragraph more has passed, whether it is written or not.
use Rattle.std.proofs.Common.{◌≡◌, ℕ, ◌+◌, ◌||◌, Bool, true, false, cond, eqb, List, [], ◌∷◌, ◌++◌, length, length-append, Option, refl, sym, ap, ◌∙◌, subst, append-nil}
use Rattle.std.specs.Io.KnownBytes.{Appends}
use Rattle.std.specs.List.{list_any}
use Rattle.std.specs.List.Sorted.{IsSorted}
use Rattle.std.specs.Ordering.{nat_cmp}
use Rattle.std.proofs.KnownBytes.{Appends-nil}
use Rattle.deb_base.specs.Bodies.{newline, pieces_of}
use Rattle.deb_syntax.specs.Lines.{Paragraph, with_newlines}
use Rattle.deb_latest.specs.Written.{chosen, chosen_from, gap, is_some, text_after, written_after}
use Rattle.deb_latest.specs.Writes.{HasWritten}
use Rattle.deb_latest.specs.declared.winners.Winners.{Winners}
use Rattle.deb_latest.proofs.WrittenTexts.{ended_pieces, is_some-more}

abbrev pub with_passed : Winners → Bool → Winners
with_passed winners begun = record winners { passed = winners.passed + 1; begun = begun }

module _ (numbers : List ℕ) (count : ℕ) (before : List Paragraph) (p : Paragraph) (winners : Winners) (has : HasWritten numbers count before winners) (among : Bool)
    (is : IsSorted nat_cmp winners.numbers.items → among ≡ list_any (eqb (winners.passed + 1)) winners.numbers.items) where
  -- whether the paragraph has one of the numbers
  is_chosen : list_any (eqb (length before + 1)) numbers ≡ among
  is_chosen = ap (λ n. list_any (eqb (n + 1)) numbers) (sym has.passed) ∙ sym (has.same (winners.passed + 1)) ∙ sym (is has.sorted)

  one : chosen_from numbers (length before) (p ∷ []) ≡ cond among (p ∷ []) []
  one = ap (λ t. cond t (p ∷ []) []) is_chosen

  has_passed : (begun : Bool) → begun ≡ (is_some (chosen numbers before) || is_some (cond among (p ∷ []) [])) → HasWritten numbers count (before ++ p ∷ []) (with_passed winners begun)
  has_passed begun same = record {
    sorted = has.sorted;
    same = has.same;
    counted = has.counted;
    passed = ap (λ n. n + 1) has.passed ∙ sym (length-append before (p ∷ []));
    begun = same ∙ sym (is_some-more numbers before (p ∷ []) ∙ ap (λ l. is_some (chosen numbers before) || is_some l) one);
  }

  or-false : (b : Bool) → b ≡ (b || false)
  or-false true = refl
  or-false false = refl

  or-true : (b : Bool) → true ≡ (b || true)
  or-true true = refl
  or-true false = refl

  pub skipped : (held : Option (List ℕ)) → among ≡ false → HasWritten numbers count (before ++ p ∷ []) (with_passed winners winners.begun) × Appends held held (text_after numbers before (p ∷ []))
  skipped held fails = (
    has_passed winners.begun (has.begun ∙ or-false (is_some (chosen numbers before)) ∙ ap (λ t. is_some (chosen numbers before) || is_some (cond t (p ∷ []) [])) (sym fails)),
    subst (Appends held held) (sym (ap (written_after (is_some (chosen numbers before))) (one ∙ ap (λ t. cond t (p ∷ []) []) fails))) (Appends-nil held),
  )

  module _ (text : List ℕ) (lines : pieces_of text ≡ p.lines) (passes : among ≡ true) where
    -- what is written of it
    pub own_text : gap winners.begun ++ (text ++ newline ∷ []) ≡ text_after numbers before (p ∷ [])
    own_text =
        ap (λ t. gap t ++ (text ++ newline ∷ [])) has.begun
        ∙ ap (λ l. gap (is_some (chosen numbers before)) ++ l) (sym (ended_pieces text) ∙ ap with_newlines lines ∙ sym (append-nil (with_newlines p.lines)))
        ∙ sym (ap (written_after (is_some (chosen numbers before))) (one ∙ ap (λ t. cond t (p ∷ []) []) passes))

    pub put : (held new : Option (List ℕ)) → Appends held new (gap winners.begun ++ (text ++ newline ∷ [])) → HasWritten numbers count (before ++ p ∷ []) (with_passed winners true) × Appends held new (text_after numbers before (p ∷ []))
    put held new written = (
      has_passed true (or-true (is_some (chosen numbers before)) ∙ ap (λ t. is_some (chosen numbers before) || is_some (cond t (p ∷ []) [])) (sym passes)),
      subst (Appends held new) own_text written,
    )
