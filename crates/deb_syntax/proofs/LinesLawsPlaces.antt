-- Each paragraph of a text is a run of its lines, at its own number; and a text means at most one thing.
use Rattle.deb_syntax.proofs.Common.{◌≡◌, ◌⊎◌, inl, inr, ℕ, ◌+◌, Result, Ok, Err, List, [], ◌∷◌, ◌++◌, length, refl, sym, ap, ◌∙◌, subst, arith, append_assoc, length-append, AllByRecursion, Line, HasNoNewline, All-weaker, Paragraph, paragraphs_of, lines_of, Refusal, Field, IsShort, judged, Entries, entries_of, HaveMeanings, Means, IsRun, AreRuns, StandsAmong, IsFirstRefusal}
use Rattle.deb_syntax.proofs.JudgingLaws.{all_left, all_right}
use Rattle.deb_syntax.proofs.JudgingLawsRefusals.{judged-sound, judged-refused, spells-unique}
use Rattle.deb_syntax.proofs.LinesLawsTexts.{lines_of-no_newline}
use Rattle.deb_syntax.proofs.LinesLawsRuns.{paragraphs_from-AreRuns}

-- each paragraph is a run of lines
pub runs-IsRun : (paragraphs : List Paragraph) (n : ℕ) (lines : List Line) → AreRuns n lines paragraphs → AllByRecursion HasNoNewline lines → AllByRecursion (λ p. IsRun p.lines) paragraphs
runs-IsRun [] n lines r none = tt
runs-IsRun (p ∷ ps) n lines r none =
    let rest : AllByRecursion HasNoNewline (p.lines ++ r.1) = all_right HasNoNewline r.0 (p.lines ++ r.1) (subst (AllByRecursion HasNoNewline) r.2 none) in (
      record { some = r.5; no_newline = all_left HasNoNewline p.lines r.1 rest; not_blank = r.6 },
      runs-IsRun ps (n + length r.0 + length p.lines) r.1 r.8 (all_right HasNoNewline p.lines r.1 rest),
    )

later : (n m : ℕ) (front lines : List Line) (p : Paragraph) → m ≡ n + length front → StandsAmong m lines p → StandsAmong n (front ++ lines) p
later n m front lines p e s =
    let number : p.first ≡ m + length s.before = s.number in
    record {
      before = front ++ s.before;
      behind = s.behind;
      is = ap (λ ls. front ++ ls) s.is ∙ sym (append_assoc front s.before (p.lines ++ s.behind));
      number = omega (arith, length-append front s.before);
    }

-- and is among the lines
pub runs-StandsAmong : (paragraphs : List Paragraph) (n : ℕ) (lines : List Line) → AreRuns n lines paragraphs → AllByRecursion (StandsAmong n lines) paragraphs
runs-StandsAmong [] n lines r = tt
runs-StandsAmong (p ∷ ps) n lines r =
    let m : ℕ = n + length r.0 + length p.lines in
    let front : List Line = r.0 ++ p.lines in
    let is : lines ≡ front ++ r.1 = r.2 ∙ sym (append_assoc r.0 p.lines r.1) in
    let e : n + length r.0 + length p.lines ≡ n + length (r.0 ++ p.lines) = omega (arith, length-append r.0 p.lines) in (
      record { before = r.0; behind = r.1; is = r.2; number = r.4 },
      All-weaker (StandsAmong m r.1) (StandsAmong n lines) (λ q s. subst (λ ls. StandsAmong n ls q) (sym is) (later n m front r.1 q e s)) ps (runs-StandsAmong ps m r.1 r.8),
    )

-- a paragraph of a text is a run of lines
pub paragraphs_of-IsRun : (text : List ℕ) → AllByRecursion (λ p. IsRun p.lines) (paragraphs_of text)
paragraphs_of-IsRun text = runs-IsRun (paragraphs_of text) 1 (lines_of text) (paragraphs_from-AreRuns (lines_of text) 1) (lines_of-no_newline text)

-- and is among the lines of the text
pub paragraphs_of-StandsAmong : (text : List ℕ) → AllByRecursion (StandsAmong 1 (lines_of text)) (paragraphs_of text)
paragraphs_of-StandsAmong text = runs-StandsAmong (paragraphs_of text) 1 (lines_of text) (paragraphs_from-AreRuns (lines_of text) 1)

-- paragraphs have one meaning
pub meanings-unique : (paragraphs : List Paragraph) (meaning other : List Entries) → AllByRecursion (λ p. IsRun p.lines) paragraphs → HaveMeanings paragraphs meaning → HaveMeanings paragraphs other → meaning ≡ other
meanings-unique [] [] [] runs m o = refl
meanings-unique [] [] (e ∷ other) runs m o = absurd o
meanings-unique [] (e ∷ meaning) other runs m o = absurd m
meanings-unique (p ∷ ps) [] other runs m o = absurd m
meanings-unique (p ∷ ps) (e ∷ meaning) [] runs m o = absurd o
meanings-unique (p ∷ ps) (e ∷ meaning) (f ∷ other) runs m o =
    let same : m.0.0 ≡ o.0.0 = spells-unique p m.0.0 o.0.0 runs.0.no_newline m.0.1 o.0.1 in
    let head : e ≡ f = m.0.2 ∙ ap entries_of same ∙ sym o.0.2 in
    let tail : meaning ≡ other = meanings-unique ps meaning other runs.1 m.1 o.1 in
    λ i. head i ∷ tail i

-- short paragraphs have a meaning, or one of them is the first that is refused
pub meant_or_refused : (paragraphs : List Paragraph) → AllByRecursion (λ p. IsRun p.lines) paragraphs → AllByRecursion IsShort paragraphs → ((meaning : List Entries) × HaveMeanings paragraphs meaning) ⊎ ((refusal : Refusal) × IsFirstRefusal paragraphs refusal × ((meaning : List Entries) → ¬ (HaveMeanings paragraphs meaning)))
meant_or_refused [] runs short = inl ([], tt)
meant_or_refused (p ∷ ps) runs short = go (judged p.first p.lines) refl (meant_or_refused ps runs.1 short.1)
  where
    refused : (refusal : Refusal) → judged p.first p.lines ≡ Err refusal → (meaning : List Entries) → ¬ (HaveMeanings (p ∷ ps) meaning)
    refused refusal e [] h = h
    refused refusal e (entries ∷ meaning) h = judged-refused p.first p.lines refusal h.0.0 runs.0.no_newline e h.0.1

    after : (refusal : Refusal) → ((meaning : List Entries) → ¬ (HaveMeanings ps meaning)) → (meaning : List Entries) → ¬ (HaveMeanings (p ∷ ps) meaning)
    after refusal none [] h = h
    after refusal none (entries ∷ meaning) h = none meaning h.1

    go : (r : Result (List Field) Refusal) → judged p.first p.lines ≡ r → ((meaning : List Entries) × HaveMeanings ps meaning) ⊎ ((refusal : Refusal) × IsFirstRefusal ps refusal × ((meaning : List Entries) → ¬ (HaveMeanings ps meaning))) → ((meaning : List Entries) × HaveMeanings (p ∷ ps) meaning) ⊎ ((refusal : Refusal) × IsFirstRefusal (p ∷ ps) refusal × ((meaning : List Entries) → ¬ (HaveMeanings (p ∷ ps) meaning)))
    go (Err refusal) e rest = inr (refusal, inl e, refused refusal e)
    go (Ok fields) e (inl m) = inl (entries_of fields ∷ m.0, ((fields, judged-sound p.first p.lines fields runs.0 short.0 e, refl), m.1))
    go (Ok fields) e (inr r) = inr (r.0, inr (fields, e, r.1), after r.0 r.2)

-- a text means at most one thing
pub means-unique : (text : List ℕ) (meaning other : List Entries) → Means text meaning → Means text other → meaning ≡ other
means-unique text meaning other m o = meanings-unique (paragraphs_of text) meaning other (paragraphs_of-IsRun text) m o
