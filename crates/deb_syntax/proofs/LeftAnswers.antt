-- The answer of a reader on the part of a file that hasn't passed, by what is there.
use Rattle.deb_syntax.proofs.Common.{◌≡◌, ℕ, ◌+◌, ◌-◌, ◌<◌, ◌≤◌, ◌==◌, ◌⊎◌, inl, inr, Bool, true, false, cond, List, [], ◌∷◌, ◌++◌, Option, Some, None, Ok, Err, length, drop, eqb, refl, sym, ap, ◌∙◌, arith, length-append, le-leb, lt-leb, append-nil, drop-append_seam, drop-length, ParagraphTooLong, FileTooLong, Line, line_length, paragraph_limit, is_blank, part_within, line_beyond, line_too_long, is_line, seen_from, paragraph_answer, answer_of_first, begin_of_first, paragraphs_within, next_answer, next_begin, left_answer, left_begin, AreBlank, AreNotBlank, judged, Paragraph, lines_of, begins_blank, paragraphs_from, paragraphs_of, total_length, file_limit, with_line, IsClosed}
use Rattle.std.proofs.lemmas.List.{append_assoc}
use Rattle.deb_syntax.proofs.Boundaries.{lines_of-append}
use Rattle.deb_syntax.proofs.NextParagraph.{paragraphs_from-append, no_paragraph, total-cons}
use Rattle.deb_syntax.proofs.Parts.{part_within-all, part_within-append, line_beyond-none, line_beyond-some, line_beyond-append}
use Rattle.deb_syntax.proofs.Passing.{IsBehind}
use Rattle.deb_syntax.proofs.Runs.{joins, paragraphs_from-run}

-- after closed lines
pub left-paragraphs : (n room : ℕ) (passed text : List ℕ) → IsClosed passed → length passed ≤ room → paragraphs_from n (lines_of (part_within room (passed ++ text))) ≡ paragraphs_from n (lines_of passed) ++ paragraphs_from (n + length (lines_of passed)) (lines_of (part_within (room - length passed) text))
left-paragraphs n room passed text closed within =
    ap (λ t. paragraphs_from n (lines_of t)) (part_within-append room passed text closed.0 within)
    ∙ ap (paragraphs_from n) (lines_of-append passed (part_within (room - length passed) text) closed.0)
    ∙ paragraphs_from-append n (lines_of passed) (lines_of (part_within (room - length passed) text)) closed.1

-- what a function of the line beyond and of the paragraphs that are left says, once lines have passed
left-pass : {A : Type 0} (f : Option ℕ → List Paragraph → A) → (n room : ℕ) (passed text : List ℕ) → IsClosed passed → length passed ≤ room
    → f (line_beyond n room (passed ++ text)) (drop (length (paragraphs_from n (lines_of passed))) (paragraphs_from n (lines_of (part_within room (passed ++ text)))))
    ≡ f (line_beyond (n + length (lines_of passed)) (room - length passed) text) (paragraphs_from (n + length (lines_of passed)) (lines_of (part_within (room - length passed) text)))
left-pass f n room passed text closed within =
    let ps = paragraphs_from n (lines_of passed) in
    ap (λ b. f b (drop (length ps) (paragraphs_from n (lines_of (part_within room (passed ++ text)))))) (line_beyond-append n room passed text closed.0 within)
    ∙ ap (λ qs. f (line_beyond (n + length (lines_of passed)) (room - length passed) text) (drop (length ps) qs)) (left-paragraphs n room passed text closed within)
    ∙ ap (f (line_beyond (n + length (lines_of passed)) (room - length passed) text)) (drop-append_seam ps _)

-- nothing after lines that all have passed
left-nothing : {A : Type 0} (f : Option ℕ → List Paragraph → A) → (room : ℕ) (passed : List ℕ) → length passed ≤ room
    → f (line_beyond 1 room (passed ++ [])) (drop (length (paragraphs_of passed)) (paragraphs_of (part_within room (passed ++ [])))) ≡ f None []
left-nothing f room passed within =
    ap (λ t. f (line_beyond 1 room t) (drop (length (paragraphs_of passed)) (paragraphs_of (part_within room t)))) (append-nil passed)
    ∙ ap (λ b. f b (drop (length (paragraphs_of passed)) (paragraphs_of (part_within room passed)))) (line_beyond-none 1 room passed within)
    ∙ ap (λ t. f None (drop (length (paragraphs_of passed)) (paragraphs_of t))) (part_within-all room passed within)
    ∙ ap (f None) (drop-length (paragraphs_of passed))

pub left-empty : {A : Type 0} (f : Option ℕ → List Paragraph → A) → (n room : ℕ) → f (line_beyond n room []) (paragraphs_from n (lines_of (part_within room []))) ≡ f None []
left-empty f n room =
    let none : length {A = ℕ} [] ≤ room = omega arith in
    ap (λ b. f b (paragraphs_from n (lines_of (part_within room [])))) (line_beyond-none n room [] none)
    ∙ ap (λ t. f None (paragraphs_from n (lines_of t))) (part_within-all room [] none)

left-behind : {A : Type 0} (f : Option ℕ → List Paragraph → A) → (passed text : List ℕ) → IsBehind passed text → length passed ≤ file_limit
    → f (line_beyond 1 file_limit (passed ++ text)) (drop (length (paragraphs_of passed)) (paragraphs_within (passed ++ text)))
    ≡ f (line_beyond (1 + length (lines_of passed)) (file_limit - length passed) text) (paragraphs_from (1 + length (lines_of passed)) (lines_of (part_within (file_limit - length passed) text)))
left-behind f passed text (inl closed) within = left-pass f 1 file_limit passed text closed within
left-behind f passed text (inr none) within =
    ap (λ t. f (line_beyond 1 file_limit (passed ++ t)) (drop (length (paragraphs_of passed)) (paragraphs_within (passed ++ t)))) none
    ∙ left-nothing f file_limit passed within ∙ sym (left-empty f (1 + length (lines_of passed)) (file_limit - length passed))
    ∙ ap (λ t. f (line_beyond (1 + length (lines_of passed)) (file_limit - length passed) t) (paragraphs_from (1 + length (lines_of passed)) (lines_of (part_within (file_limit - length passed) t)))) (sym none)

-- the answer after what has passed is that on the text which hasn't
pub next_answer-left : (passed text : List ℕ) → IsBehind passed text → length passed ≤ file_limit → next_answer (passed ++ text) (length (paragraphs_of passed)) ≡ left_answer (1 + length (lines_of passed)) (file_limit - length passed) text
next_answer-left passed text behind within = left-behind answer_of_first passed text behind within

pub next_begin-left : (passed text : List ℕ) → IsBehind passed text → length passed ≤ file_limit → next_begin (passed ++ text) (length (paragraphs_of passed)) ≡ left_begin (1 + length (lines_of passed)) (file_limit - length passed) text
next_begin-left passed text behind within = left-behind begin_of_first passed text behind within

-- lines that aren't too long together
pub line_too_long-none : (n room : ℕ) (lines : List Line) → total_length lines ≤ room → line_too_long n room lines ≡ None
line_too_long-none n room [] h = refl
line_too_long-none n room (line ∷ lines) h =
    let sum : total_length (line ∷ lines) ≡ total_length (line ∷ []) + total_length lines = total-cons line lines in
    let one : total_length (line ∷ []) ≡ line_length line = omega arith in
    let rest : line_too_long (n + 1) (room - line_length line) lines ≡ None = line_too_long-none (n + 1) (room - line_length line) lines (omega arith) in
    ap (λ t. cond t (line_too_long (n + 1) (room - line_length line) lines) (Some n)) (le-leb (line_length line) room (omega arith)) ∙ rest

-- lines with which these pass the limit
pub line_too_long-some : (n room : ℕ) (run : List Line) (line : Line) (rest : List Line) → total_length run ≤ room → room < total_length run + line_length line → line_too_long n room (run ++ line ∷ rest) ≡ Some (n + length run)
line_too_long-some n room [] line rest short long =
    let zero_more : n ≡ n + 0 = omega arith in
    ap (λ t. cond t (line_too_long (n + 1) (room - line_length line) rest) (Some n)) (lt-leb (line_length line) room (omega arith)) ∙ ap Some zero_more
line_too_long-some n room (first ∷ run) line rest short long =
    let sum : total_length (first ∷ run) ≡ total_length (first ∷ []) + total_length run = total-cons first run in
    let one : total_length (first ∷ []) ≡ line_length first = omega arith in
    let more : line_too_long (n + 1) (room - line_length first) (run ++ line ∷ rest) ≡ Some (n + 1 + length run) = line_too_long-some (n + 1) (room - line_length first) run line rest (omega arith) (omega arith) in
    let count : n + 1 + length run ≡ n + length (first ∷ run) = omega arith in
    ap (λ t. cond t (line_too_long (n + 1) (room - line_length first) (run ++ line ∷ rest)) (Some n)) (le-leb (line_length first) room (omega arith)) ∙ more ∙ ap Some count

-- the first paragraph of lines that begin with a run has the run's lines first
pub first_paragraph : (n : ℕ) (line : Line) (run rest : List Line) → AreNotBlank (line ∷ run) → (more : List Line) × (ps : List Paragraph) × (paragraphs_from n ((line ∷ run) ++ rest) ≡ record { first = n; lines = (line ∷ run) ++ more } ∷ ps)
first_paragraph n line [] rest h = go (begins_blank rest) (paragraphs_from (n + 1) rest)
  where
    go : (b : Bool) (ps : List Paragraph) → (more : List Line) × (qs : List Paragraph) × (cond (is_blank line) (paragraphs_from (n + 1) rest) (with_line n line b ps) ≡ record { first = n; lines = line ∷ more } ∷ qs)
    go true ps = ([], ps, rw h.0 refl)
    go false [] = ([], [], rw h.0 refl)
    go false (p ∷ ps) = (p.lines, ps, rw h.0 refl)
first_paragraph n line (next ∷ run) rest h =
    let ih = first_paragraph (n + 1) next run rest h.1 in
    (ih.0, ih.1, joins n line (is_blank line) (is_blank next) _ _ _ _ h.0 h.1.0 ih.2)

eqb-beyond : (n more : ℕ) → 0 < more → eqb (n + more) n ≡ false
eqb-beyond n more some = grind (arith, Rattle.std.proofs.lemmas.Bool.Decides.nat_tests)

-- no line beyond, or one further on
is_line-not : (n m : ℕ) (beyond : Option ℕ) → (beyond ≡ None) ⊎ ((more : ℕ) × (beyond ≡ Some (n + m + more)) × (0 < more)) → is_line (n + m) beyond ≡ false
is_line-not n m beyond (inl e) = ap (is_line (n + m)) e
is_line-not n m beyond (inr (more, e, some)) = ap (is_line (n + m)) e ∙ eqb-beyond (n + m) more some

module _ (n room : ℕ) (text : List ℕ) where
  -- only blank lines
  pub left-none : AreBlank (lines_of text) → length text ≤ room → (left_answer n room text ≡ Ok None) × (left_begin n room text ≡ Ok None)
  left-none blank within =
      let none : paragraphs_from n (lines_of (part_within room text)) ≡ [] = ap (λ t. paragraphs_from n (lines_of t)) (part_within-all room text within) ∙ no_paragraph n (lines_of text) blank in
      let not_beyond = line_beyond-none n room text within in
      (rw (not_beyond, none) refl, rw (not_beyond, none) refl)

  -- a line that isn't blank
  pub left-begins : (line : Line) (rest : List Line) → lines_of (part_within room text) ≡ line ∷ rest → is_blank line ≡ false → left_begin n room text ≡ Ok (Some n)
  left-begins line rest is not_blank =
      let found = first_paragraph n line [] rest (not_blank, tt) in
      let paragraphs : paragraphs_from n (lines_of (part_within room text)) ≡ record { first = n; lines = line ∷ found.0 } ∷ found.1 = ap (paragraphs_from n) is ∙ found.2 in
      go (line_beyond n room text) paragraphs
    where
      go : (beyond : Option ℕ) {ps qs : List Paragraph} {lines : List Line} → ps ≡ record { first = n; lines = lines } ∷ qs → begin_of_first beyond ps ≡ Ok (Some n)
      go None e = ap (begin_of_first None) e
      go (Some line) e = ap (begin_of_first (Some line)) e

  answer_at : (beyond : Option ℕ) (p : Paragraph) (ps : List Paragraph) → answer_of_first beyond (p ∷ ps) ≡ paragraph_answer (line_too_long p.first paragraph_limit p.lines) beyond p
  answer_at None p ps = refl
  answer_at (Some line) p ps = refl

  -- a run that a blank line or the end ends, and that isn't too long
  pub left-run : (line : Line) (run rest : List Line) → lines_of (part_within room text) ≡ (line ∷ run) ++ rest → AreNotBlank (line ∷ run) → begins_blank rest ≡ true → total_length (line ∷ run) ≤ paragraph_limit → (length text ≤ room) ⊎ (0 < length rest) → left_answer n room text ≡ seen_from n (judged n (line ∷ run))
  left-run line run rest is not_blank begins short ends =
      let beyond = line_beyond n room text in
      let p : Paragraph = record { first = n; lines = line ∷ run } in
      let found : paragraphs_from n (lines_of (part_within room text)) ≡ p ∷ paragraphs_from (n + length (line ∷ run)) rest = ap (paragraphs_from n) is ∙ paragraphs_from-run n line run rest not_blank begins in
      let not_at : is_line (n + length (line ∷ run)) beyond ≡ false = is_line-not n (length (line ∷ run)) beyond (not_reached ends) in
      ap (answer_of_first beyond) found ∙ answer_at beyond p (paragraphs_from (n + length (line ∷ run)) rest)
      ∙ ap (λ t. paragraph_answer t beyond p) (line_too_long-none n paragraph_limit (line ∷ run) short)
      ∙ ap (λ t. cond t (Err (record { code = FileTooLong; line = n + length (line ∷ run) })) (seen_from n (judged n (line ∷ run)))) not_at
    where
      not_reached : (length text ≤ room) ⊎ (0 < length rest) → (line_beyond n room text ≡ None) ⊎ ((more : ℕ) × (line_beyond n room text ≡ Some (n + length (line ∷ run) + more)) × (0 < more))
      not_reached (inl within) = inl (line_beyond-none n room text within)
      not_reached (inr some) = elim (Rattle.std.proofs.lemmas.Bool.cases_lt room (length text)) [
        | inr within ↦ inl (line_beyond-none n room text within)
        | inl long ↦
            let count : n + length (lines_of (part_within room text)) ≡ n + length (line ∷ run) + length rest = omega (arith, ap length is, length-append (line ∷ run) rest) in
            inr (length rest, line_beyond-some n room text long ∙ ap Some count, some)
      ]

  -- a line with which the lines are too long
  pub left-long : (run : List Line) (line : Line) (rest : List Line) → lines_of (part_within room text) ≡ run ++ line ∷ rest → AreNotBlank run → is_blank line ≡ false → total_length run ≤ paragraph_limit → paragraph_limit < total_length run + line_length line → left_answer n room text ≡ Err (record { code = ParagraphTooLong; line = n + length run })
  left-long run line rest is not_blank line_not short long = go run is not_blank short long
    where
      at_paragraph : (p : Paragraph) (ps : List Paragraph) (at : ℕ) → paragraphs_from n (lines_of (part_within room text)) ≡ p ∷ ps → line_too_long p.first paragraph_limit p.lines ≡ Some at → left_answer n room text ≡ Err (record { code = ParagraphTooLong; line = at })
      at_paragraph p ps at found too_long =
          ap (answer_of_first (line_beyond n room text)) found ∙ answer_at (line_beyond n room text) p ps ∙ ap (λ t. paragraph_answer t (line_beyond n room text) p) too_long

      go : (run : List Line) → lines_of (part_within room text) ≡ run ++ line ∷ rest → AreNotBlank run → total_length run ≤ paragraph_limit → paragraph_limit < total_length run + line_length line → left_answer n room text ≡ Err (record { code = ParagraphTooLong; line = n + length run })
      go [] is not_blank short long =
          let found = first_paragraph n line [] rest (line_not, tt) in
          at_paragraph _ found.1 (n + 0) (ap (paragraphs_from n) is ∙ found.2) (line_too_long-some n paragraph_limit [] line found.0 short long)
      go (first ∷ run) is not_blank short long =
          let all : lines_of (part_within room text) ≡ (first ∷ (run ++ line ∷ [])) ++ rest = is ∙ sym (append_assoc (first ∷ run) (line ∷ []) rest) in
          let found = first_paragraph n first (run ++ line ∷ []) rest (not_blank.0, with_last run not_blank.1) in
          let lines : (first ∷ (run ++ line ∷ [])) ++ found.0 ≡ (first ∷ run) ++ line ∷ found.0 = append_assoc (first ∷ run) (line ∷ []) found.0 in
          at_paragraph _ found.1 (n + length (first ∷ run)) (ap (paragraphs_from n) all ∙ found.2) (ap (line_too_long n paragraph_limit) lines ∙ line_too_long-some n paragraph_limit (first ∷ run) line found.0 short long)
        where
          with_last : (lines : List Line) → AreNotBlank lines → AreNotBlank (lines ++ line ∷ [])
          with_last [] h = (line_not, tt)
          with_last (l ∷ ls) h = (h.0, with_last ls h.1)

  -- the file is too long, and no blank line after the run is in sight
  pub left-beyond : (run : List Line) → lines_of (part_within room text) ≡ run → room < length text → AreNotBlank run → total_length run ≤ paragraph_limit → left_answer n room text ≡ Err (record { code = FileTooLong; line = n + length run })
  left-beyond run is long not_blank short =
      let beyond : line_beyond n room text ≡ Some (n + length run) = line_beyond-some n room text long ∙ ap (λ ls. Some (n + length ls)) is in
      ap (λ b. answer_of_first b (paragraphs_from n (lines_of (part_within room text)))) beyond ∙ ap (λ ls. answer_of_first (Some (n + length run)) (paragraphs_from n ls)) is ∙ go run not_blank short
    where
      go : (run : List Line) → AreNotBlank run → total_length run ≤ paragraph_limit → answer_of_first (Some (n + length run)) (paragraphs_from n run) ≡ Err (record { code = FileTooLong; line = n + length run })
      go [] h s = refl
      go (line ∷ run) h s =
          let p : Paragraph = record { first = n; lines = line ∷ run } in
          let found : paragraphs_from n (line ∷ run) ≡ p ∷ [] = ap (paragraphs_from n) (sym (append-nil (line ∷ run))) ∙ paragraphs_from-run n line run [] h refl in
          let at : (n + length (line ∷ run) == n + length (line ∷ run)) ≡ true = Rattle.std.proofs.Common.eq-eqb (n + length (line ∷ run)) (n + length (line ∷ run)) refl in
          ap (answer_of_first (Some (n + length (line ∷ run)))) found
          ∙ ap (λ t. paragraph_answer t (Some (n + length (line ∷ run))) p) (line_too_long-none n paragraph_limit (line ∷ run) s)
          ∙ ap (λ t. cond t (Err (record { code = FileTooLong; line = n + length (line ∷ run) })) (seen_from n (judged n (line ∷ run)))) at

  -- the same where no line is whole
  pub left-cut : lines_of (part_within room text) ≡ [] → room < length text → left_begin n room text ≡ Err (record { code = FileTooLong; line = n })
  left-cut is long =
      let zero_more : n + 0 ≡ n = omega arith in
      let beyond : line_beyond n room text ≡ Some n = line_beyond-some n room text long ∙ ap (λ ls. Some (n + length ls)) is ∙ ap Some zero_more in
      ap (λ b. begin_of_first b (paragraphs_from n (lines_of (part_within room text)))) beyond ∙ ap (λ ls. begin_of_first (Some n) (paragraphs_from n ls)) is
