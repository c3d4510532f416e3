-- Lines of which one is longer than a paragraph may be: its bytes can be exchanged.
use Rattle.std.proofs.Common.{◌≡◌, ℕ, zero, suc, ◌+◌, ◌-◌, ◌<◌, ◌≤◌, ◌==◌, ◌∙◌, ◌⊎◌, inl, inr, Bool, true, false, cond, List, [], ◌∷◌, ◌++◌, length, take, drop, nat_le, Some, refl, sym, ap, subst, append_assoc, arith}
use Rattle.std.proofs.lemmas.Bool.{cases_lt, lt-leb}
use Rattle.std.proofs.lemmas.List.{length-append, take-append-le}
use Rattle.deb_base.specs.Bodies.{HasNoNewline, Line, is_blank, line_length, newline, paragraph_limit}
use Rattle.deb_base.proofs.AllElements.{All-append}
use Rattle.deb_syntax.specs.Answers.{line_too_long, part_within, whole_lines}
use Rattle.deb_syntax.specs.Lines.{Paragraph, begins_blank, ends_line, lines_of, paragraphs_from, with_line}
use Rattle.deb_syntax.proofs.Boundaries.{ends_line-append}
use Rattle.deb_syntax.proofs.Parts.{part_within-all, part_within-append, part_within-some, whole_lines-none}
use Rattle.deb_syntax.proofs.Runs.{lines_of-last, lines_of-line}

-- ---- texts

-- a text up to its last newline, and what is after it
pub record LastLine (text : List ℕ) : Type 0 where
  pub lines : List ℕ
  pub line : List ℕ
  pub is : text ≡ lines ++ line
  pub whole : ends_line lines ≡ true
  pub unended : HasNoNewline line

last-more : (b : ℕ) (bs line lines : List ℕ) → HasNoNewline line → bs ≡ lines ++ line → ends_line lines ≡ true → (t : Bool) → (b == newline) ≡ t → LastLine (b ∷ bs)
last-more b bs line (c ∷ cs) none is whole t h = record { lines = b ∷ c ∷ cs; line = line; is = ap (λ zs. b ∷ zs) is; whole = whole; unended = none }
last-more b bs line [] none is whole true h = record { lines = b ∷ []; line = line; is = ap (λ zs. b ∷ zs) is; whole = h; unended = none }
last-more b bs line [] none is whole false h = record { lines = []; line = b ∷ line; is = ap (λ zs. b ∷ zs) is; whole = refl; unended = (h, none) }

pub last_line : (text : List ℕ) → LastLine text
last_line [] = record { lines = []; line = []; is = refl; whole = refl; unended = tt }
last_line (b ∷ bs) = let last = last_line bs in last-more b bs last.line last.lines last.unended last.is last.whole (b == newline) refl

-- a text up to its first newline, and what is after it
record FirstLine (text : List ℕ) : Type 0 where
  line : List ℕ
  rest : List ℕ
  is : text ≡ line ++ newline ∷ rest
  unended : HasNoNewline line

first_line : (text : List ℕ) → HasNoNewline text ⊎ FirstLine text
first_line [] = inl tt
first_line (b ∷ bs) = go (b == newline) refl (first_line bs)
  where
    is_newline : (b == newline) ≡ true → b ≡ newline
    is_newline h = Rattle.std.proofs.lemmas.Bool.eqb-true b newline h

    go : (t : Bool) → (b == newline) ≡ t → HasNoNewline bs ⊎ FirstLine bs → HasNoNewline (b ∷ bs) ⊎ FirstLine (b ∷ bs)
    go true h later = inr (record { line = []; rest = bs; is = ap (λ c. c ∷ bs) (is_newline h); unended = tt })
    go false h (inl none) = inl (h, none)
    go false h (inr first) = inr (record { line = b ∷ first.line; rest = first.rest; is = ap (λ zs. b ∷ zs) first.is; unended = (h, first.unended) })

take-open : (n : ℕ) (text : List ℕ) → HasNoNewline text → HasNoNewline (take n text)
take-open zero text h = tt
take-open (suc n) [] h = tt
take-open (suc n) (b ∷ bs) h = (h.0, take-open n bs h.1)

-- ---- lines

-- Lines of which the first of one list is in the place of that of the other.
pub record ChangesFirst (lines others : List Line) : Type 0 where
  pub first : Line
  pub other : Line
  pub same : List Line
  pub is : lines ≡ first ∷ same
  pub is_other : others ≡ other ∷ same
  pub bytes : length first ≡ length other
  pub long : paragraph_limit ≤ length first

abbrev pub ChangeFirst : List Line → List Line → Type 0
ChangeFirst lines others = (lines ≡ others) ⊎ ChangesFirst lines others

-- two lines that are longer than a paragraph may be, of as many bytes, and what follows both
module _ (a b : List ℕ) (open_a : HasNoNewline a) (open_b : HasNoNewline b) (bytes : length a ≡ length b) (long : paragraph_limit ≤ length a) (some : 0 < paragraph_limit) where
  one-line : (text : List ℕ) → HasNoNewline text → 0 < length text → lines_of text ≡ text ∷ []
  one-line [] none full = absurd (omega (arith, full))
  one-line (c ∷ cs) none full = lines_of-last c cs none

  -- neither ends
  part-open : (room : ℕ) → ChangeFirst (lines_of (part_within room a)) (lines_of (part_within room b))
  part-open room =
      elim (cases_lt room (length a)) [
        | inl l ↦
            let lb : room < length b = omega (arith, bytes) in
            inl (ap lines_of (part_within-some room a l ∙ whole_lines-none (take room a) (take-open room a open_a))
            ∙ sym (ap lines_of (part_within-some room b lb ∙ whole_lines-none (take room b) (take-open room b open_b))))
        | inr l ↦
            let lb : length b ≤ room = omega (arith, bytes) in
            inr (record {
              first = a;
              other = b;
              same = [];
              is = ap lines_of (part_within-all room a l) ∙ one-line a open_a (omega (arith, some, long));
              is_other = ap lines_of (part_within-all room b lb) ∙ one-line b open_b (omega (arith, some, long, bytes));
              bytes = bytes;
              long = long;
            })
      ]

  -- a line that is cut off within the bytes that are looked at
  part-cut : (room : ℕ) (line rest : List ℕ) → HasNoNewline line → room ≤ length line → lines_of (part_within room (line ++ newline ∷ rest)) ≡ []
  part-cut room line rest none l =
      let longer : room < length (line ++ newline ∷ rest) = omega (arith, length-append line (newline ∷ rest)) in
      ap lines_of (part_within-some room (line ++ newline ∷ rest) longer ∙ ap whole_lines (take-append-le room line (newline ∷ rest) l)
      ∙ whole_lines-none (take room line) (take-open room line none))

  part-whole : (room : ℕ) (line rest : List ℕ) → HasNoNewline line → length line < room → lines_of (part_within room (line ++ newline ∷ rest)) ≡ line ∷ lines_of (part_within (room - (length line + 1)) rest)
  part-whole room line rest none l =
      let text = line ++ newline ∷ [] in
      let len : length text ≡ length line + 1 = length-append line (newline ∷ []) in
      let later = part_within (room - (length line + 1)) rest in
      ap (λ t. lines_of (part_within room t)) (sym (append_assoc line (newline ∷ []) rest))
      ∙ ap lines_of (part_within-append room text rest (ends_line-append [] line) (omega (arith, len)))
      ∙ ap (λ n. lines_of (text ++ part_within (room - n) rest)) len
      ∙ ap lines_of (append_assoc line (newline ∷ []) later)
      ∙ lines_of-line line later none

  -- both end
  part-ended : (room : ℕ) (rest : List ℕ) → ChangeFirst (lines_of (part_within room (a ++ newline ∷ rest))) (lines_of (part_within room (b ++ newline ∷ rest)))
  part-ended room rest =
      elim (cases_lt (length a) room) [
        | inl l ↦
            let lb : length b < room = omega (arith, bytes) in
            inr (record {
              first = a;
              other = b;
              same = lines_of (part_within (room - (length a + 1)) rest);
              is = part-whole room a rest open_a l;
              is_other = part-whole room b rest open_b lb ∙ ap (λ n. b ∷ lines_of (part_within (room - (n + 1)) rest)) (sym bytes);
              bytes = bytes;
              long = long;
            })
        | inr l ↦
            let lb : room ≤ length b = omega (arith, bytes) in
            inl (part-cut room a rest open_a l ∙ sym (part-cut room b rest open_b lb))
      ]

-- what is looked at of two such lines and what follows both
module _ (a b more : List ℕ) (open_a : HasNoNewline a) (open_b : HasNoNewline b) (bytes : length a ≡ length b) (long : paragraph_limit ≤ length a) (some : 0 < paragraph_limit) where
  pub part-changed : (room : ℕ) → ChangeFirst (lines_of (part_within room (a ++ more))) (lines_of (part_within room (b ++ more)))
  part-changed room = go (first_line more)
    where
      longer : (line : List ℕ) → paragraph_limit ≤ length (a ++ line)
      longer line = omega (arith, long, length-append a line)

      as_long : (line : List ℕ) → length (a ++ line) ≡ length (b ++ line)
      as_long line = omega (arith, bytes, length-append a line, length-append b line)

      go : HasNoNewline more ⊎ FirstLine more → ChangeFirst (lines_of (part_within room (a ++ more))) (lines_of (part_within room (b ++ more)))
      go (inl none) = part-open (a ++ more) (b ++ more) (All-append _ a more open_a none) (All-append _ b more open_b none) (as_long more) (longer more) some room
      go (inr first) =
          let line = first.line in
          let end = newline ∷ first.rest in
          let whole_a : (a ++ line) ++ end ≡ a ++ more = append_assoc a line end ∙ ap (λ t. a ++ t) (sym first.is) in
          let whole_b : (b ++ line) ++ end ≡ b ++ more = append_assoc b line end ∙ ap (λ t. b ++ t) (sym first.is) in
          subst (λ t. ChangeFirst (lines_of (part_within room t)) (lines_of (part_within room (b ++ more)))) whole_a
          (subst (λ t. ChangeFirst (lines_of (part_within room ((a ++ line) ++ end))) (lines_of (part_within room t))) whole_b
          (part-ended (a ++ line) (b ++ line) (All-append _ a line open_a first.unended) (All-append _ b line open_b first.unended) (as_long line) (longer line) some room first.rest))

-- ---- paragraphs

-- both lists of lines are too long for a paragraph, from the same line on, whatever is before them
pub record TooLongLines (lines others : List Line) : Type 0 where
  pub line : (n room : ℕ) → room ≤ paragraph_limit → (k : ℕ) × ((line_too_long n room lines ≡ Some k) × (line_too_long n room others ≡ Some k))

pub record TooLongBoth (p q : Paragraph) : Type 0 where
  pub first : p.first ≡ q.first
  pub lines : TooLongLines p.lines q.lines

-- The paragraphs are the same, but for some that are too long in both.
abbrev pub AlikeParagraphs : List Paragraph → List Paragraph → Type 0
AlikeParagraphs [] [] = Unit {0}
AlikeParagraphs [] (q ∷ qs) = ⊥
AlikeParagraphs (p ∷ ps) [] = ⊥
AlikeParagraphs (p ∷ ps) (q ∷ qs) = ((p ≡ q) ⊎ TooLongBoth p q) × AlikeParagraphs ps qs

alike-same : (ps : List Paragraph) → AlikeParagraphs ps ps
alike-same [] = tt
alike-same (p ∷ ps) = (inl refl, alike-same ps)

pub alike-drop : (k : ℕ) (ps qs : List Paragraph) → AlikeParagraphs ps qs → AlikeParagraphs (drop k ps) (drop k qs)
alike-drop zero ps qs alike = alike
alike-drop (suc k) [] [] alike = tt
alike-drop (suc k) [] (q ∷ qs) alike = absurd alike
alike-drop (suc k) (p ∷ ps) [] alike = absurd alike
alike-drop (suc k) (p ∷ ps) (q ∷ qs) alike = alike-drop k ps qs alike.1

-- one more line before
too_long-more : (line : Line) (ls ks : List Line) → TooLongLines ls ks → TooLongLines (line ∷ ls) (line ∷ ks)
too_long-more line ls ks too_long = record {
  line = λ n room few.
      let later = too_long.line (n + 1) (room - line_length line) (omega (arith, few)) in
      elim (nat_le (line_length line) room) as (λ t. (k : ℕ) × ((cond t (line_too_long (n + 1) (room - line_length line) ls) (Some n) ≡ Some k) × (cond t (line_too_long (n + 1) (room - line_length line) ks) (Some n) ≡ Some k))) [
        | true ↦ later
        | false ↦ (n, (refl, refl))
      ];
}

long-first : (line : Line) (ls : List Line) → paragraph_limit ≤ length line → (n room : ℕ) → room ≤ paragraph_limit → line_too_long n room (line ∷ ls) ≡ Some n
long-first line ls long n room few =
    let less : room < line_length line = omega (arith, few, long) in
    let no : nat_le (line_length line) room ≡ false = lt-leb (line_length line) room less in
    rw no refl

too_long-first : (a b : Line) (ls ks : List Line) → length a ≡ length b → paragraph_limit ≤ length a → TooLongLines (a ∷ ls) (b ∷ ks)
too_long-first a b ls ks bytes long = record {
  line = λ n room few. (n, (long-first a ls long n room few, long-first b ks (omega (arith, bytes, long)) n room few));
}

-- a line before paragraphs that are alike
with_line-alike : (n : ℕ) (line : Line) (t : Bool) (ps qs : List Paragraph) → AlikeParagraphs ps qs → AlikeParagraphs (with_line n line t ps) (with_line n line t qs)
with_line-alike n line true ps qs alike = (inl refl, alike)
with_line-alike n line false [] [] alike = (inl refl, tt)
with_line-alike n line false [] (q ∷ qs) alike = absurd alike
with_line-alike n line false (p ∷ ps) [] alike = absurd alike
with_line-alike n line false (p ∷ ps) (q ∷ qs) alike = (
  elim alike.0 [
    | inl same ↦ inl (ap (λ r. record { first = n; lines = line ∷ r.lines }) same)
    | inr both ↦ inr (record { first = refl; lines = too_long-more line p.lines q.lines both.lines })
  ],
  alike.1,
)

-- two such lines before the same paragraphs
with_line-changed : (n : ℕ) (a b : Line) (t : Bool) (ps : List Paragraph) → length a ≡ length b → paragraph_limit ≤ length a → AlikeParagraphs (with_line n a t ps) (with_line n b t ps)
with_line-changed n a b true ps bytes long = (inr (record { first = refl; lines = too_long-first a b [] [] bytes long }), alike-same ps)
with_line-changed n a b false [] bytes long = (inr (record { first = refl; lines = too_long-first a b [] [] bytes long }), tt)
with_line-changed n a b false (p ∷ ps) bytes long = (inr (record { first = refl; lines = too_long-first a b p.lines p.lines bytes long }), alike-same ps)

not-blank : (line : Line) → paragraph_limit ≤ length line → is_blank line ≡ false
not-blank line long =
    let no : nat_le (line_length line) paragraph_limit ≡ false = lt-leb (line_length line) paragraph_limit (omega (arith, long)) in
    rw no refl

first-changed : (n : ℕ) (ls ks : List Line) → ChangesFirst ls ks → AlikeParagraphs (paragraphs_from n ls) (paragraphs_from n ks) × (begins_blank ls ≡ begins_blank ks)
first-changed n ls ks changes =
    let a = changes.first in
    let b = changes.other in
    let later = paragraphs_from (n + 1) changes.same in
    let no_a = not-blank a changes.long in
    let no_b = not-blank b (omega (arith, changes.long, changes.bytes)) in
    let alike : AlikeParagraphs (paragraphs_from n (a ∷ changes.same)) (paragraphs_from n (b ∷ changes.same))
    = rw (no_a, no_b) (with_line-changed n a b (begins_blank changes.same) later changes.bytes changes.long) in (
      subst (λ zs. AlikeParagraphs (paragraphs_from n zs) (paragraphs_from n ks)) (sym changes.is)
          (subst (λ zs. AlikeParagraphs (paragraphs_from n (a ∷ changes.same)) (paragraphs_from n zs)) (sym changes.is_other) alike),
      ap begins_blank changes.is ∙ no_a ∙ sym no_b ∙ sym (ap begins_blank changes.is_other),
    )

-- after the same lines
pub paragraphs-changed : (front : List Line) (n : ℕ) (ls ks : List Line) → ChangeFirst ls ks → AlikeParagraphs (paragraphs_from n (front ++ ls)) (paragraphs_from n (front ++ ks)) × (begins_blank (front ++ ls) ≡ begins_blank (front ++ ks))
paragraphs-changed front n ls ks (inl same) = (subst (λ zs. AlikeParagraphs (paragraphs_from n (front ++ ls)) (paragraphs_from n (front ++ zs))) same (alike-same (paragraphs_from n (front ++ ls))), ap (λ zs. begins_blank (front ++ zs)) same)
paragraphs-changed [] n ls ks (inr changes) = first-changed n ls ks changes
paragraphs-changed (line ∷ front) n ls ks (inr changes) =
    let ih = paragraphs-changed front (n + 1) ls ks (inr changes) in
    let ps = paragraphs_from (n + 1) (front ++ ls) in
    let qs = paragraphs_from (n + 1) (front ++ ks) in (
      elim (is_blank line) as (λ t. AlikeParagraphs (cond t ps (with_line n line (begins_blank (front ++ ls)) ps)) (cond t qs (with_line n line (begins_blank (front ++ ks)) qs))) [
        | true ↦ ih.0
        | false ↦ subst (λ t. AlikeParagraphs (with_line n line (begins_blank (front ++ ls)) ps) (with_line n line t qs)) ih.1 (with_line-alike n line (begins_blank (front ++ ls)) ps qs ih.0)
      ],
      refl,
    )
