-- The part of a text that is looked at is its first lines, and has no more paragraphs than the text.
use Rattle.deb_control.proofs.Common.{◌≡◌, ℕ, ◌+◌, ◌≤◌, ◌==◌, inl, inr, Bool, true, false, cond, List, [], ◌∷◌, ◌++◌, length, take, drop, refl, sym, ap, ◌∙◌, subst, arith, append_assoc, append-nil, take-append-drop, cases_lt, Line, newline, is_blank, with_whole, whole_lines, part_within, Paragraph, lines_of, ends_line, begins_blank, with_line, paragraphs_from, paragraphs_of, lines_of-append, part_within-all, part_within-some}

whole-lines : (text : List ℕ) → (rest : List ℕ) × (text ≡ whole_lines text ++ rest) × (ends_line (whole_lines text) ≡ true)
whole-lines [] = ([], refl, refl)
whole-lines (b ∷ bs) = let h = whole-lines bs in go (b == newline) refl (whole_lines bs) h.0 h.1 h.2
  where
    go : (t : Bool) → (b == newline) ≡ t → (whole rest : List ℕ) → bs ≡ whole ++ rest → ends_line whole ≡ true → (left : List ℕ) × (b ∷ bs ≡ with_whole b whole ++ left) × (ends_line (with_whole b whole) ≡ true)
    go true is [] rest e h = (rest, rw is (ap (λ l. b ∷ l) e), rw is is)
    go false is [] rest e h = (b ∷ bs, rw is refl, rw is refl)
    go t is (c ∷ whole) rest e h = (rest, ap (λ l. b ∷ l) e, h)

pub part-front : (room : ℕ) (text : List ℕ) → (rest : List Line) × (lines_of text ≡ lines_of (part_within room text) ++ rest)
part-front room text =
    elim (cases_lt room (length text)) [
      | inl long ↦
          let w = whole-lines (take room text) in
          let whole : List ℕ = whole_lines (take room text) in
          let is : text ≡ whole ++ (w.0 ++ drop room text) = sym (take-append-drop room text) ∙ ap (λ l. l ++ drop room text) w.1 ∙ append_assoc whole w.0 (drop room text) in (
            lines_of (w.0 ++ drop room text),
            ap lines_of is ∙ lines_of-append whole (w.0 ++ drop room text) w.2 ∙ ap (λ l. lines_of l ++ lines_of (w.0 ++ drop room text)) (sym (part_within-some room text long)),
          )
      | inr short ↦ ([], ap lines_of (sym (part_within-all room text short)) ∙ sym (append-nil (lines_of (part_within room text))))
    ]

some_paragraph : (n : ℕ) (line : Line) (t : Bool) (ps : List Paragraph) → 1 ≤ length (with_line n line t ps)
some_paragraph n line true ps = omega arith
some_paragraph n line false [] = omega arith
some_paragraph n line false (p ∷ ps) = omega arith

with_line-grows : (n : ℕ) (line : Line) (t : Bool) (ps more : List Paragraph) → length ps ≤ length more → length (with_line n line t ps) ≤ length (with_line n line t more)
with_line-grows n line true ps more h = omega (arith, h)
with_line-grows n line false [] more h = some_paragraph n line false more
with_line-grows n line false (p ∷ ps) [] h = absurd (omega (arith, h))
with_line-grows n line false (p ∷ ps) (q ∷ more) h = omega (arith, h)

either_grows : (t : Bool) (a b c d : List Paragraph) → length a ≤ length c → length b ≤ length d → length (cond t a b) ≤ length (cond t c d)
either_grows true a b c d h k = h
either_grows false a b c d h k = k

-- more lines have no fewer paragraphs
paragraphs-grow : (n : ℕ) (lines rest : List Line) → length (paragraphs_from n lines) ≤ length (paragraphs_from n (lines ++ rest))
paragraphs-grow n [] rest = omega arith
paragraphs-grow n (line ∷ []) rest =
    either_grows (is_blank line) [] (with_line n line true []) (paragraphs_from (n + 1) rest) (with_line n line (begins_blank rest) (paragraphs_from (n + 1) rest))
    (omega arith) (some_paragraph n line (begins_blank rest) (paragraphs_from (n + 1) rest))
paragraphs-grow n (line ∷ next ∷ lines) rest =
    let more = paragraphs-grow (n + 1) (next ∷ lines) rest in
    either_grows (is_blank line) (paragraphs_from (n + 1) (next ∷ lines)) (with_line n line (is_blank next) (paragraphs_from (n + 1) (next ∷ lines))) (paragraphs_from (n + 1) (next ∷ (lines ++ rest))) (with_line n line (is_blank next) (paragraphs_from (n + 1) (next ∷ (lines ++ rest))))
    more (with_line-grows n line (is_blank next) (paragraphs_from (n + 1) (next ∷ lines)) (paragraphs_from (n + 1) (next ∷ (lines ++ rest))) more)

pub part-paragraphs : (room : ℕ) (text : List ℕ) → length (paragraphs_of (part_within room text)) ≤ length (paragraphs_of text)
part-paragraphs room text =
    let front = part-front room text in
    subst (λ lines. length (paragraphs_of (part_within room text)) ≤ length (paragraphs_from 1 lines)) (sym front.1) (paragraphs-grow 1 (lines_of (part_within room text)) front.0)
