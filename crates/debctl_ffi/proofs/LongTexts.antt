-- Texts that differ only in bytes of a line that is longer than a paragraph may be have the same answers.
use Rattle.std.proofs.Common.{◌≡◌, ℕ, ◌+◌, ◌-◌, ◌<◌, ◌≤◌, ◌&&◌, ◌∙◌, ◌⊎◌, inl, inr, true, cond, List, [], ◌∷◌, ◌++◌, length, drop, Option, Some, None, Result, Ok, Err, refl, sym, ap, subst, append_assoc, arith}
use Rattle.std.proofs.lemmas.List.{length-append}
use Rattle.deb_base.specs.Bodies.{HasNoNewline, Line, paragraph_limit, file_limit}
use Rattle.deb_base.specs.declared.code.Code.TheVariants.{TooManyParagraphs}
use Rattle.deb_base.specs.declared.refusal.Refusal.{Refusal}
use Rattle.deb_base.proofs.AllElements.{All-append}
use Rattle.deb_syntax.specs.Answers.{answer_of_first, line_beyond, line_too_long, paragraph_answer, paragraphs_within, part_within}
use Rattle.deb_syntax.specs.Lines.{Paragraph, ends_line, lines_of, paragraphs_from}
use Rattle.deb_syntax.specs.Meaning.{Entries}
use Rattle.deb_syntax.proofs.Boundaries.{lines_of-append}
use Rattle.deb_syntax.proofs.Parts.{line_beyond-none, line_beyond-some, part_within-append}
use Rattle.std.proofs.lemmas.Bool.{cases_lt}
use Rattle.deb_control.specs.Documents.{rules_of}
use Rattle.deb_control.specs.Refusals.{Outcome, answer_behind, answer_of_seen, followed, has_some, line_behind, outcome_behind}
use Rattle.deb_control.specs.Rules.{Rules}
use Rattle.deb_control.proofs.Passing.{answer_of_first-cons}
use Rattle.debctl_ffi.specs.Alike.{AlikeAfter, AnswerAlike}
use Rattle.debctl_ffi.specs.LongLines.{ChangesLongLine}
use Rattle.debctl_ffi.proofs.AlikeTexts.{alike-more}
use Rattle.debctl_ffi.proofs.ChangedLines.{AlikeParagraphs, ChangeFirst, LastLine, TooLongBoth, alike-drop, last_line, paragraphs-changed, part-changed}

-- ---- answers

answer-same : (o : Option ℕ) (ps qs : List Paragraph) → AlikeParagraphs ps qs → answer_of_first o ps ≡ answer_of_first o qs
answer-same o [] [] alike = refl
answer-same o [] (q ∷ qs) alike = absurd alike
answer-same o (p ∷ ps) [] alike = absurd alike
answer-same o (p ∷ ps) (q ∷ qs) alike =
    answer_of_first-cons o p ps
    ∙ elim alike.0 [
      | inl same ↦ ap (λ r. paragraph_answer (line_too_long r.first paragraph_limit r.lines) o r) same
      | inr both ↦
          let found = both.lines.line p.first paragraph_limit (omega arith) in
          ap (λ l. paragraph_answer l o p) found.1.0
          ∙ sym (ap (λ n. paragraph_answer (line_too_long n paragraph_limit q.lines) o q) (sym both.first) ∙ ap (λ l. paragraph_answer l o q) found.1.1)
    ]
    ∙ sym (answer_of_first-cons o q qs)

first-same : (p q : Paragraph) → (p ≡ q) ⊎ TooLongBoth p q → p.first ≡ q.first
first-same p q (inl same) = ap (λ r. r.first) same
first-same p q (inr both) = both.first

behind-same : (rules : Rules) (o : Option ℕ) (n : ℕ) (before : List Entries) (ps qs : List Paragraph) → AlikeParagraphs ps qs → answer_behind rules o n before ps ≡ answer_behind rules o n before qs
behind-same rules o n before [] [] alike = refl
behind-same rules o n before [] (q ∷ qs) alike = absurd alike
behind-same rules o n before (p ∷ ps) [] alike = absurd alike
behind-same rules o n before (p ∷ ps) (q ∷ qs) alike =
    ap (λ line. cond (rules.single && has_some before) (Err (record { code = TooManyParagraphs; line = line })) (answer_of_seen rules n before (answer_of_first o (p ∷ ps)))) (first-same p q alike.0)
    ∙ ap (λ r. cond (rules.single && has_some before) (Err (record { code = TooManyParagraphs; line = q.first })) (answer_of_seen rules n before r)) (answer-same o (p ∷ ps) (q ∷ qs) alike)

followed-same : (before : List Entries) (r : Result (Option Entries) Refusal) (f g : Entries → Outcome) → ((entries : Entries) → f entries ≡ g entries) → followed before r f ≡ followed before r g
followed-same before (Err refusal) f g same = refl
followed-same before (Ok None) f g same = refl
followed-same before (Ok (Some entries)) f g same = same entries

comes-same : (rules : Rules) (o : Option ℕ) (n : ℕ) (before : List Entries) (ps qs : List Paragraph) → AlikeParagraphs ps qs → outcome_behind rules o n before ps ≡ outcome_behind rules o n before qs
comes-same rules o n before [] [] alike = refl
comes-same rules o n before [] (q ∷ qs) alike = absurd alike
comes-same rules o n before (p ∷ ps) [] alike = absurd alike
comes-same rules o n before (p ∷ ps) (q ∷ qs) alike =
    ap (λ r. followed before r (λ entries. outcome_behind rules o n (before ++ entries ∷ []) ps)) (behind-same rules o n before (p ∷ ps) (q ∷ qs) alike)
    ∙ followed-same before (answer_behind rules o n before (q ∷ qs)) _ _ (λ entries. comes-same rules o n (before ++ entries ∷ []) ps qs alike.1)

-- ---- texts

-- how many lines there are
count-same : (ls ks : List Line) → ChangeFirst ls ks → length ls ≡ length ks
count-same ls ks (inl same) = ap length same
count-same ls ks (inr changes) = ap length changes.is ∙ sym (ap length changes.is_other)

beyond-same : (room : ℕ) (x y : List ℕ) → length x ≡ length y → length (lines_of (part_within room x)) ≡ length (lines_of (part_within room y)) → line_beyond 1 room x ≡ line_beyond 1 room y
beyond-same room x y bytes lines =
    elim (cases_lt room (length x)) [
      | inl l ↦
          let ly : room < length y = omega (arith, bytes) in
          line_beyond-some 1 room x l ∙ ap (λ n. Some (1 + n)) lines ∙ sym (line_beyond-some 1 room y ly)
      | inr l ↦
          let ly : length y ≤ room = omega (arith, bytes) in
          line_beyond-none 1 room x l ∙ sym (line_beyond-none 1 room y ly)
    ]

-- after whole lines, two lines without a newline that are longer than a paragraph may be
module _ (c a b : List ℕ) (whole : ends_line c ≡ true) (open_a : HasNoNewline a) (open_b : HasNoNewline b) (bytes : length a ≡ length b) (long : paragraph_limit ≤ length a) (some : 0 < paragraph_limit) (short : length c ≤ file_limit) where
  changed : (room : ℕ) (more : List ℕ) → ChangeFirst (lines_of (part_within room (a ++ more))) (lines_of (part_within room (b ++ more)))
  changed room more = part-changed a b more open_a open_b bytes long some room

  within-lines : (t more : List ℕ) → lines_of (part_within file_limit ((c ++ t) ++ more)) ≡ lines_of c ++ lines_of (part_within (file_limit - length c) (t ++ more))
  within-lines t more =
      ap (λ z. lines_of (part_within file_limit z)) (append_assoc c t more)
      ∙ ap lines_of (part_within-append file_limit c (t ++ more) whole short)
      ∙ lines_of-append c (part_within (file_limit - length c) (t ++ more)) whole

  as_many : (more : List ℕ) → length (lines_of (part_within file_limit ((c ++ a) ++ more))) ≡ length (lines_of (part_within file_limit ((c ++ b) ++ more)))
  as_many more =
      let room : ℕ = file_limit - length c in
      let la = lines_of (part_within room (a ++ more)) in
      let lb = lines_of (part_within room (b ++ more)) in
      omega (arith, ap length (within-lines a more), ap length (within-lines b more), length-append (lines_of c) la, length-append (lines_of c) lb, count-same la lb (changed room more))

  all_bytes : (more : List ℕ) → length ((c ++ a) ++ more) ≡ length ((c ++ b) ++ more)
  all_bytes more = omega (arith, bytes, length-append c a, length-append c b, length-append (c ++ a) more, length-append (c ++ b) more)

  beyond : (more : List ℕ) → line_beyond 1 file_limit ((c ++ a) ++ more) ≡ line_beyond 1 file_limit ((c ++ b) ++ more)
  beyond more = beyond-same file_limit ((c ++ a) ++ more) ((c ++ b) ++ more) (all_bytes more) (as_many more)

  alike : (more : List ℕ) → AlikeParagraphs (paragraphs_within ((c ++ a) ++ more)) (paragraphs_within ((c ++ b) ++ more))
  alike more =
      let room : ℕ = file_limit - length c in
      let la = lines_of (part_within room (a ++ more)) in
      let lb = lines_of (part_within room (b ++ more)) in
      subst (λ ls. AlikeParagraphs (paragraphs_from 1 ls) (paragraphs_within ((c ++ b) ++ more))) (sym (within-lines a more))
      (subst (λ ls. AlikeParagraphs (paragraphs_from 1 (lines_of c ++ la)) (paragraphs_from 1 ls)) (sym (within-lines b more))
      (paragraphs-changed (lines_of c) 1 la lb (changed room more)).0)

  -- all lines of a text are those of a part with as much room as it has bytes
  all-lines : (t : List ℕ) (more : List ℕ) → lines_of ((c ++ t) ++ more) ≡ lines_of c ++ lines_of (part_within (length (t ++ more)) (t ++ more))
  all-lines t more =
      ap lines_of (append_assoc c t more) ∙ lines_of-append c (t ++ more) whole
      ∙ ap (λ z. lines_of c ++ lines_of z) (sym (Rattle.deb_syntax.proofs.Parts.part_within-all (length (t ++ more)) (t ++ more) (omega arith)))

  after : (more : List ℕ) → line_behind ((c ++ a) ++ more) ≡ line_behind ((c ++ b) ++ more)
  after more =
      let room : ℕ = length (a ++ more) in
      let same : room ≡ length (b ++ more) = omega (arith, bytes, length-append a more, length-append b more) in
      let la = lines_of (part_within room (a ++ more)) in
      let lb = lines_of (part_within room (b ++ more)) in
      let is_b : lines_of ((c ++ b) ++ more) ≡ lines_of c ++ lb = all-lines b more ∙ ap (λ r. lines_of c ++ lines_of (part_within r (b ++ more))) (sym same) in
      omega (arith, ap length (all-lines a more), ap length is_b, length-append (lines_of c) la, length-append (lines_of c) lb, count-same la lb (changed room more))

  alike-lines : AnswerAlike (c ++ a) (c ++ b)
  alike-lines = record {
    bytes = omega (arith, bytes, length-append c a, length-append c b);
    next = λ more k.
        ap (λ o. answer_of_first o (drop k (paragraphs_within ((c ++ a) ++ more)))) (beyond more)
        ∙ answer-same (line_beyond 1 file_limit ((c ++ b) ++ more)) (drop k (paragraphs_within ((c ++ a) ++ more))) (drop k (paragraphs_within ((c ++ b) ++ more))) (alike-drop k _ _ (alike more));
    checked = λ doc more before.
        let ps = drop (length before) (paragraphs_within ((c ++ a) ++ more)) in
        ap (λ o. answer_behind (rules_of doc) o (line_behind ((c ++ a) ++ more)) before ps) (beyond more)
        ∙ ap (λ n. answer_behind (rules_of doc) (line_beyond 1 file_limit ((c ++ b) ++ more)) n before ps) (after more)
        ∙ behind-same (rules_of doc) (line_beyond 1 file_limit ((c ++ b) ++ more)) (line_behind ((c ++ b) ++ more)) before ps (drop (length before) (paragraphs_within ((c ++ b) ++ more))) (alike-drop (length before) _ _ (alike more));
    comes = λ doc more.
        let ps = paragraphs_within ((c ++ a) ++ more) in
        ap (λ o. outcome_behind (rules_of doc) o (line_behind ((c ++ a) ++ more)) [] ps) (beyond more)
        ∙ ap (λ n. outcome_behind (rules_of doc) (line_beyond 1 file_limit ((c ++ b) ++ more)) n [] ps) (after more)
        ∙ comes-same (rules_of doc) (line_beyond 1 file_limit ((c ++ b) ++ more)) (line_behind ((c ++ b) ++ more)) [] ps (paragraphs_within ((c ++ b) ++ more)) (alike more);
  }

limit-some : 0 < paragraph_limit
unfolding paragraph_limit
limit-some = omega arith

-- wherever the line begins
module _ (front a b rest : List ℕ) (open_a : HasNoNewline a) (open_b : HasNoNewline b) (bytes : length a ≡ length b) (long : paragraph_limit ≤ length a) (short : length (front ++ (a ++ rest)) ≤ file_limit) where
  begin : LastLine front
  begin = last_line front

  abbrev part : List ℕ → List ℕ
  part t = begin.lines ++ (begin.line ++ t)

  is : (t : List ℕ) → part t ++ rest ≡ front ++ (t ++ rest)
  is t =
      append_assoc begin.lines (begin.line ++ t) rest ∙ ap (λ z. begin.lines ++ z) (append_assoc begin.line t rest)
      ∙ sym (append_assoc begin.lines begin.line (t ++ rest)) ∙ ap (λ z. z ++ (t ++ rest)) (sym begin.is)

  begin_short : length begin.lines ≤ file_limit
  begin_short = omega (arith, short, length-append front (a ++ rest), ap length begin.is, length-append begin.lines begin.line)

  pub alike-changed : AnswerAlike (front ++ (a ++ rest)) (front ++ (b ++ rest))
  alike-changed =
      subst (λ t. AnswerAlike t (front ++ (b ++ rest))) (is a) (subst (λ t. AnswerAlike (part a ++ rest) t) (is b)
      (alike-more (part a) (part b) rest
      (alike-lines begin.lines (begin.line ++ a) (begin.line ++ b) begin.whole (All-append _ begin.line a begin.unended open_a) (All-append _ begin.line b begin.unended open_b)
      (omega (arith, bytes, length-append begin.line a, length-append begin.line b)) (omega (arith, long, length-append begin.line a)) limit-some begin_short)))

-- Bytes of such a line can be exchanged, whatever is before and after them.
pub changes-alike : (old new : List ℕ) → ChangesLongLine old new → AlikeAfter old new
changes-alike old new changes = λ u short.
    let front = u ++ changes.front in
    let was : front ++ (changes.before ++ changes.rest) ≡ u ++ old = append_assoc u changes.front (changes.before ++ changes.rest) ∙ ap (λ t. u ++ t) (sym changes.was) in
    let is : front ++ (changes.after ++ changes.rest) ≡ u ++ new = append_assoc u changes.front (changes.after ++ changes.rest) ∙ ap (λ t. u ++ t) (sym changes.is) in
    subst (λ t. AnswerAlike t (u ++ new)) was (subst (λ t. AnswerAlike (front ++ (changes.before ++ changes.rest)) t) is
    (alike-changed front changes.before changes.after changes.rest changes.line_before changes.line_after changes.bytes changes.long (omega (arith, short, ap length was))))

pub changes-some : (old new : List ℕ) → ChangesLongLine old new → 0 < length old
changes-some old new changes =
    omega (arith, limit-some, changes.long, ap length changes.was, length-append changes.front (changes.before ++ changes.rest), length-append changes.before changes.rest)
