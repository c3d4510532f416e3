-- The paragraphs of lines are the maximal runs of lines that aren't blank, and there is one such list of them.
use Rattle.deb_syntax.proofs.Common.{◌≡◌, ◌≢◌, ℕ, ◌+◌, suc, Bool, true, false, cond, List, [], ◌∷◌, ◌++◌, length, refl, sym, ap, ◌∙◌, subst, arith, true≢false, AllByRecursion, Line, is_blank, Paragraph, begins_blank, with_line, paragraphs_from, AreRuns}
use Rattle.std.proofs.Common.{append-nil}
use Rattle.deb_syntax.proofs.Runs.{paragraphs_from-blanks, paragraphs_from-run}

abbrev AllBlank : List Line → Type 0
AllBlank lines = AllByRecursion (λ line. is_blank line ≡ true) lines

-- one more blank line before them
runs-blank : (n : ℕ) (line : Line) (lines : List Line) (paragraphs : List Paragraph) → is_blank line ≡ true → AreRuns (n + 1) lines paragraphs → AreRuns n (line ∷ lines) paragraphs
runs-blank n line lines [] e r = (e, r)
runs-blank n line lines (p ∷ ps) e r =
    let k : n + 1 + length r.0 ≡ n + suc (length r.0) = omega arith in
    (line ∷ r.0, r.1, ap (λ ls. line ∷ ls) r.2, (e, r.3), r.4 ∙ k, r.5, r.6, r.7, subst (λ m. AreRuns (m + length p.lines) r.1 ps) k r.8)

-- one more line before them, which is a paragraph of its own
runs-alone : (n : ℕ) (line : Line) (lines : List Line) (paragraphs : List Paragraph) → is_blank line ≡ false → begins_blank lines ≡ true → AreRuns (n + 1) lines paragraphs → AreRuns n (line ∷ lines) (record { first = n; lines = line ∷ [] } ∷ paragraphs)
runs-alone n line lines ps e b r = (
  [],
  lines,
  refl,
  tt,
  (let k : n ≡ n + 0 = omega arith in k),
  (λ z. let y : ⊥ = cc in y),
  (e, tt),
  b,
  subst (λ m. AreRuns m lines ps) (let k : n + 1 ≡ n + 0 + 1 = omega arith in k) r,
)

-- one more line before them, which joins the paragraph of the next line
runs-joins : (n : ℕ) (line next : Line) (lines : List Line) (paragraphs : List Paragraph) → is_blank line ≡ false → is_blank next ≡ false → AreRuns (n + 1) (next ∷ lines) paragraphs → AreRuns n (line ∷ next ∷ lines) (with_line n line false paragraphs)
runs-joins n line next lines [] e f r = absurd (true≢false (sym r.0 ∙ f))
runs-joins n line next lines (p ∷ ps) e f r = go r.0 r.2 r.3 r.8
  where
    go : (blanks : List Line) → next ∷ lines ≡ blanks ++ (p.lines ++ r.1) → AllBlank blanks → AreRuns (n + 1 + length blanks + length p.lines) r.1 ps → AreRuns n (line ∷ next ∷ lines) (record { first = n; lines = line ∷ p.lines } ∷ ps)
    go [] is all rest = (
      [],
      r.1,
      ap (λ ls. line ∷ ls) is,
      tt,
      (let k : n ≡ n + 0 = omega arith in k),
      (λ z. let y : ⊥ = cc in y),
      (e, r.6),
      r.7,
      subst (λ m. AreRuns m r.1 ps) (let k : n + 1 + 0 + length p.lines ≡ n + 0 + suc (length p.lines) = omega arith in k) rest,
    )
    go (blank ∷ blanks) is all rest =
        let same : next ≡ blank = cc in
        absurd (true≢false (sym all.0 ∙ ap is_blank (sym same) ∙ f))

runs-line : (n : ℕ) (line : Line) (lines : List Line) (paragraphs : List Paragraph) → AreRuns (n + 1) lines paragraphs → AreRuns n (line ∷ lines) (cond (is_blank line) paragraphs (with_line n line (begins_blank lines) paragraphs))
runs-line n line lines ps r = go (is_blank line) refl lines r
  where
    third : (ls : List Line) → is_blank line ≡ false → AreRuns (n + 1) ls ps → (t : Bool) → begins_blank ls ≡ t → AreRuns n (line ∷ ls) (with_line n line t ps)
    third ls e q true b = runs-alone n line ls ps e b q
    third [] e q false b = absurd (true≢false b)
    third (next ∷ ls) e q false b = runs-joins n line next ls ps e b q

    go : (t : Bool) → is_blank line ≡ t → (ls : List Line) → AreRuns (n + 1) ls ps → AreRuns n (line ∷ ls) (cond t ps (with_line n line (begins_blank ls) ps))
    go true e ls q = runs-blank n line ls ps e q
    go false e ls q = third ls e q (begins_blank ls) refl

-- the paragraphs of lines are maximal runs
pub paragraphs_from-AreRuns : (lines : List Line) (n : ℕ) → AreRuns n lines (paragraphs_from n lines)
paragraphs_from-AreRuns [] n = tt
paragraphs_from-AreRuns (line ∷ lines) n = runs-line n line lines (paragraphs_from (n + 1) lines) (paragraphs_from-AreRuns lines (n + 1))

-- and no other list is
pub paragraphs_from-unique : (paragraphs : List Paragraph) (n : ℕ) (lines : List Line) → AreRuns n lines paragraphs → paragraphs ≡ paragraphs_from n lines
paragraphs_from-unique [] n lines r = sym (ap (paragraphs_from n) (sym (append-nil lines)) ∙ paragraphs_from-blanks n lines [] r)
paragraphs_from-unique (p ∷ ps) n lines r = go p.lines r.5 r.2 r.4 r.6 (paragraphs_from-unique ps (n + length r.0 + length p.lines) r.1 r.8)
  where
    go : (own : List Line) → own ≢ [] → lines ≡ r.0 ++ (own ++ r.1) → p.first ≡ n + length r.0 → AllByRecursion (λ line. is_blank line ≡ false) own → ps ≡ paragraphs_from (n + length r.0 + length own) r.1 → record { first = p.first; lines = own } ∷ ps ≡ paragraphs_from n lines
    go [] some is number solid rest = absurd (some refl)
    go (line ∷ run) some is number solid rest =
        ap (λ k. record { first = k; lines = line ∷ run } ∷ ps) number
        ∙ ap (λ qs. record { first = n + length r.0; lines = line ∷ run } ∷ qs) rest
        ∙ sym (paragraphs_from-run (n + length r.0) line run r.1 solid r.7)
        ∙ sym (paragraphs_from-blanks n r.0 ((line ∷ run) ++ r.1) r.3)
        ∙ ap (paragraphs_from n) (sym is)
