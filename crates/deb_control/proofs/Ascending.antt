-- Each refusal is reported within its run, and the runs of a file lie one after another.
use Rattle.std.proofs.Common.{◌≡◌, ◌≢◌, ◌&&◌, ◌+◌, ◌-◌, ◌==◌, ◌<◌, ◌≤◌, ◌++◌, Bool, ℕ, true, false, cond, not, nat_le, is_some, IfErr, IfSome, List, [], ◌∷◌, length, Option, None, Some, Result, Ok, Err, refl, sym, ap, ◌∙◌, subst, arith, append_assoc, length-append, true≢false}
use Rattle.std.proofs.lemmas.Bool.{or_parts}
use Rattle.std.specs.List.{AllByRecursion}
use Rattle.deb_base.specs.Bodies.{HasNoNewline, Line, line_length, paragraph_limit, file_limit}
use Rattle.deb_base.specs.Codes.{number_of}
use Rattle.deb_base.specs.FieldNames.{colon}
use Rattle.deb_base.specs.Names.{canonical_name}
use Rattle.deb_base.specs.declared.code.Code.{Code}
use Rattle.deb_base.specs.declared.code.Code.TheVariants.{FileTooLong, MissingField, NoParagraph, ParagraphTooLong, TooManyParagraphs}
use Rattle.deb_base.specs.declared.refusal.Refusal.{Refusal}
use Rattle.deb_syntax.proofs.JudgingLaws.{all_left, all_right}
use Rattle.deb_syntax.proofs.JudgingLawsRefusals.{judged-refusal, judged-sound}
use Rattle.deb_syntax.proofs.LinesLawsRuns.{paragraphs_from-AreRuns}
use Rattle.deb_syntax.proofs.LinesLawsTexts.{lines_of-no_newline}
use Rattle.deb_syntax.specs.Answers.{Seen, answer_of_first, is_line, line_beyond, line_too_long, paragraph_answer, part_within, seen_from}
use Rattle.deb_syntax.specs.Fields.{Field, SpellsField, SpellsFields}
use Rattle.deb_syntax.specs.Judging.{judged}
use Rattle.deb_syntax.specs.Laws.{AreRuns, IsRun}
use Rattle.deb_syntax.specs.Lines.{Paragraph, lines_of, paragraphs_of}
use Rattle.deb_syntax.specs.Meaning.{Entries}
use Rattle.deb_control.proofs.Limits.{total_length-within}
use Rattle.deb_control.proofs.PartsWithin.{part-front}
use Rattle.deb_control.proofs.Passing.{answer_of_first-cons, some_same}
use Rattle.deb_control.proofs.RefusalLines.{same_refusal}
use Rattle.deb_control.specs.Canonical.{file_text, paragraph_text}
use Rattle.deb_control.specs.Documents.{rules_of}
use Rattle.deb_control.specs.Refusals.{answer_behind, answer_of_seen, built, canonical_entries, has_some, have_names, line_behind, refusal_or, refused_or_built, value_refusal_of, within_file}
use Rattle.deb_control.specs.Rules.{Rules}
use Rattle.deb_control.specs.Streams.{CheckedItem, CheckedStream, end_of, ended_by, is_end_under, item_of, refusals_after, refusals_in, stream_behind_under, stream_of, with_answer, with_item}
use Rattle.deb_control.specs.Ascending.{AreInOrder, Ascend, HasRefusalWithin, RefusalsAscend, RunsAreInOrder}

-- a line of a paragraph
abbrev IsOf : Paragraph → ℕ → Type 0
IsOf p line = (p.first ≤ line) × (line < p.first + length p.lines)

own-some : (own : List Line) (field : Field) → SpellsField own field → 1 ≤ length own
own-some [] field spells = absurd (omega (arith, ap length spells.spelt, length-append field.name (colon ∷ (spells.before ++ (field.body ++ spells.after)))))
own-some (line ∷ own) field spells = omega arith

-- the first lines of fields are their paragraph's
field-lines : (p : Paragraph) (n : ℕ) (lines : List Line) (fields : List Field) → SpellsFields n lines fields → p.first ≤ n → n + length lines ≤ p.first + length p.lines → AllByRecursion (λ field. IsOf p field.line) fields
field-lines p n lines [] spells least most = tt
field-lines p n lines (field ∷ fields) spells least most =
    let own = spells.0 in
    let rest = spells.1 in
    let some = own-some own field spells.4 in
    let size : length lines ≡ length own + length rest = ap length spells.2 ∙ length-append own rest in
    let at : field.line ≡ n = spells.3 in
    ((omega arith, omega arith), field-lines p (n + length own) rest fields spells.5 (omega arith) (omega arith))

value-line : (rules : Rules) (p : Paragraph) (fields : List Field) (refusal : Refusal) → AllByRecursion (λ field. IsOf p field.line) fields → value_refusal_of rules fields ≡ Some refusal → IsOf p refusal.line
value-line rules p [] refusal lines h = absurd (cc)
value-line rules p (field ∷ fields) refusal lines h = go (rules.refusal (canonical_name field.name) field.body) (value-line rules p fields refusal lines.1) h
  where
    go : (o : Option Code) → (value_refusal_of rules fields ≡ Some refusal → IsOf p refusal.line) → refusal_or o field.line (value_refusal_of rules fields) ≡ Some refusal → IsOf p refusal.line
    go (Some code) rest e = subst (λ r. IsOf p r.line) (some_same (Some (record { code = code; line = field.line })) (record { code = code; line = field.line }) refusal refl e) lines.0
    go None rest e = rest e

-- what is refused of a paragraph by itself is so at one of its lines
built-line : (rules : Rules) (p : Paragraph) (seen : Seen) (refusal : Refusal) → IsOf p seen.first → AllByRecursion (λ field. IsOf p field.line) seen.fields → built rules seen ≡ Err refusal → IsOf p refusal.line
built-line rules p seen refusal at lines h = go (value_refusal_of rules seen.fields) refl h
  where
    late : (t u : Bool) → cond {A = Result Entries Refusal} (not t) (Err (record { code = MissingField; line = seen.first })) (cond (not u) (Err (record { code = ParagraphTooLong; line = seen.first })) (Ok (canonical_entries rules seen.fields))) ≡ Err refusal → IsOf p refusal.line
    late false u e = subst (λ r. IsOf p r.line) (same_refusal _ _ _ refl e) at
    late true false e = subst (λ r. IsOf p r.line) (same_refusal _ _ _ refl e) at
    late true true e = absurd (cc)

    go : (o : Option Refusal) → value_refusal_of rules seen.fields ≡ o → refused_or_built rules seen o ≡ Err refusal → IsOf p refusal.line
    go (Some other) is e = value-line rules p seen.fields refusal lines (is ∙ ap Some (same_refusal _ other refusal refl e))
    go None is e = late (have_names seen.fields rules.required) (nat_le (length (paragraph_text (canonical_entries rules seen.fields))) paragraph_limit) e

-- the line with which lines are too long is one of them
long-within : (n room : ℕ) (lines : List Line) (line : ℕ) → line_too_long n room lines ≡ Some line → (n ≤ line) × (line < n + length lines)
long-within n room [] line h = absurd (cc)
long-within n room (l ∷ lines) line h = go (nat_le (line_length l) room) (long-within (n + 1) (room - line_length l) lines line) h
  where
    go : (t : Bool) → (line_too_long (n + 1) (room - line_length l) lines ≡ Some line → (n + 1 ≤ line) × (line < n + 1 + length lines)) → cond t (line_too_long (n + 1) (room - line_length l) lines) (Some n) ≡ Some line → (n ≤ line) × (line < n + length (l ∷ lines))
    go true more e = let is = more e in (omega (arith, is.0), omega (arith, is.1))
    go false more e = let same : n ≡ line = some_same (Some n) n line refl e in (omega (arith, same), omega (arith, same))

-- A refusal of a paragraph is at one of its lines, or it ends the stream at the line after them.
record IsTold (rules : Rules) (p : Paragraph) (refusal : Refusal) : Type 0 where
  from : p.first ≤ refusal.line
  most : refusal.line ≤ p.first + length p.lines
  within : is_end_under paragraph_limit rules p refusal ≡ false → refusal.line < p.first + length p.lines

module _ (rules : Rules) (beyond : Option ℕ) (nb : ℕ) (before : List Entries) (p : Paragraph) (run : IsRun p.lines) (refusal : Refusal) where
  some-lines : 1 ≤ length p.lines
  some-lines = go p.lines run.some
    where
      go : (lines : List Line) → lines ≢ [] → 1 ≤ length lines
      go [] some = absurd (some refl)
      go (line ∷ lines) some = omega arith

  at_first : IsOf p p.first
  at_first = (omega arith, omega (arith, some-lines))

  of_lines : IsOf p refusal.line → IsTold rules p refusal
  of_lines at = record { from = at.0; most = omega (arith, at.1); within = λ _. at.1 }

  told_built : (fields : List Field) → AllByRecursion (λ field. IsOf p field.line) fields → (b : Result Entries Refusal) → built rules (record { first = p.first; fields = fields }) ≡ b → within_file before p.first b ≡ Err refusal → IsTold rules p refusal
  told_built fields lines (Err other) is h = of_lines (built-line rules p (record { first = p.first; fields = fields }) refusal at_first lines (is ∙ ap Err (same_refusal (Err other) other refusal refl h)))
  told_built fields lines (Ok entries) is h = go (nat_le (length (file_text (before ++ entries ∷ []))) file_limit) h
    where
      go : (t : Bool) → cond {A = Result (Option Entries) Refusal} (not t) (Err (record { code = FileTooLong; line = p.first })) (Ok (Some entries)) ≡ Err refusal → IsTold rules p refusal
      go false e = of_lines (subst (λ r. IsOf p r.line) (same_refusal _ _ _ refl e) at_first)
      go true e = absurd (cc)

  told_judged : line_too_long p.first paragraph_limit p.lines ≡ None → (j : Result (List Field) Refusal) → judged p.first p.lines ≡ j → answer_of_seen rules nb before (seen_from p.first j) ≡ Err refusal → IsTold rules p refusal
  told_judged short (Err other) is h =
      let judges = judged-refusal p.first p.lines refusal (is ∙ ap Err (same_refusal (Err other) other refusal refl h)) in
      of_lines (judges.first, judges.last)
  told_judged short (Ok fields) is h =
      let spells = judged-sound p.first p.lines fields run (total_length-within p.lines p.first paragraph_limit short) is in
      told_built fields (field-lines p p.first p.lines fields spells.spelt (omega arith) (omega arith)) (built rules (record { first = p.first; fields = fields })) refl h

  told_short : line_too_long p.first paragraph_limit p.lines ≡ None → (t : Bool) → answer_of_seen rules nb before (cond t (Err (record { code = FileTooLong; line = p.first + length p.lines })) (seen_from p.first (judged p.first p.lines))) ≡ Err refusal → IsTold rules p refusal
  told_short short true h =
      let same = same_refusal (Err (record { code = FileTooLong; line = p.first + length p.lines })) (record { code = FileTooLong; line = p.first + length p.lines }) refusal refl h in
      record {
        from = omega (arith, ap (λ r. r.line) same);
        most = omega (arith, ap (λ r. r.line) same);
        within = λ goes_on.
            let others = or_parts rules.single _ goes_on in
            let code = or_parts (is_some (line_too_long p.first paragraph_limit p.lines)) _ others.1 in
            absurd (true≢false (ap (λ r. number_of r.code == 9) same ∙ code.1));
      }
  told_short short false h = told_judged short (judged p.first p.lines) refl h

  told_first : (o : Option ℕ) → line_too_long p.first paragraph_limit p.lines ≡ o → answer_of_seen rules nb before (paragraph_answer o beyond p) ≡ Err refusal → IsTold rules p refusal
  told_first None is h = told_short is (is_line (p.first + length p.lines) beyond) h
  told_first (Some line) is h =
      let same = same_refusal (Err (record { code = ParagraphTooLong; line = line })) (record { code = ParagraphTooLong; line = line }) refusal refl h in
      let long = long-within p.first paragraph_limit p.lines line is in
      of_lines (subst (λ r. IsOf p r.line) same long)

  told : (left : List Paragraph) → answer_behind rules beyond nb before (p ∷ left) ≡ Err refusal → IsTold rules p refusal
  told left h = go (rules.single && has_some before) h
    where
      go : (t : Bool) → cond {A = Result (Option Entries) Refusal} t (Err (record { code = TooManyParagraphs; line = p.first })) (answer_of_seen rules nb before (answer_of_first beyond (p ∷ left))) ≡ Err refusal → IsTold rules p refusal
      go true e = of_lines (subst (λ r. IsOf p r.line) (same_refusal _ _ _ refl e) at_first)
      go false e = told_first (line_too_long p.first paragraph_limit p.lines) refl (ap (answer_of_seen rules nb before) (sym (answer_of_first-cons beyond p left)) ∙ e)

module _ (rules : Rules) (beyond : Option ℕ) (nb : ℕ) (more : List Line) where
  abbrev stream : List Entries → List Paragraph → CheckedStream
  stream before left = stream_behind_under paragraph_limit file_limit rules beyond nb before left

  -- the lines from line n on that are looked at, and those after them
  record AreLeft (n : ℕ) (lines : List Line) : Type 0 where
    all : n + length (lines ++ more) ≡ nb
    cut : IfSome beyond (λ line. n + length lines ≡ line)
    none : AllByRecursion HasNoNewline lines

  abbrev IsAfter : ℕ → List Line → Refusal → Type 0
  IsAfter n lines refusal = (n ≤ refusal.line) × (refusal.line ≤ n + length (lines ++ more))

  end_behind : (before : List Entries) (n : ℕ) (lines : List Line) → n + length (lines ++ more) ≡ nb → (o : Option ℕ) → IfSome o (λ line. n + length lines ≡ line) → (refusal : Refusal) → answer_behind rules o nb before [] ≡ Err refusal → IsAfter n lines refusal
  end_behind before n lines all None cut refusal h = go (rules.single && not (has_some before)) h
    where
      go : (t : Bool) → cond {A = Result (Option Entries) Refusal} t (Err (record { code = NoParagraph; line = nb })) (Ok None) ≡ Err refusal → IsAfter n lines refusal
      go true e = subst (IsAfter n lines) (same_refusal _ _ _ refl e) (omega (arith, all), omega (arith, all))
      go false e = absurd (cc)
  end_behind before n lines all (Some line) cut refusal h =
      let same = same_refusal (Err (record { code = FileTooLong; line = line })) (record { code = FileTooLong; line = line }) refusal refl h in
      subst (IsAfter n lines) same (omega (arith, cut), omega (arith, cut, length-append lines more))

  at_end : (before : List Entries) (n : ℕ) (lines : List Line) → AreLeft n lines → (a : Result (Option Entries) Refusal) → answer_behind rules beyond nb before [] ≡ a → AreInOrder n (lines ++ more) (end_of a).items (end_of a).end
  at_end before n lines are (Ok next) is = tt
  at_end before n lines are (Err refusal) is = end_behind before n lines are.all beyond are.cut refusal is

  module _ (before : List Entries) (n : ℕ) (lines : List Line) (p : Paragraph) (left : List Paragraph) (runs : AreRuns n lines (p ∷ left)) (are : AreLeft n lines) where
    abbrev after : ℕ
    after = n + length runs.0 + length p.lines

    after_it : after + length runs.1 ≡ n + length lines
    after_it = omega (arith, ap length runs.2, length-append runs.0 (p.lines ++ runs.1), length-append p.lines runs.1)

    own_parts : AllByRecursion HasNoNewline (p.lines ++ runs.1)
    own_parts = all_right HasNoNewline runs.0 (p.lines ++ runs.1) (subst (AllByRecursion HasNoNewline) runs.2 are.none)

    rest_left : AreLeft after runs.1
    rest_left = record {
      all = omega (arith, after_it, are.all, length-append lines more, length-append runs.1 more);
      cut = subst (λ k. IfSome beyond (λ line. k ≡ line)) (sym after_it) are.cut;
      none = all_right HasNoNewline p.lines runs.1 own_parts;
    }

    one_told : (refusal : Refusal) → answer_behind rules beyond nb before (p ∷ left) ≡ Err refusal → IsTold rules p refusal
    one_told refusal is = told rules beyond nb before p (record { some = runs.5; no_newline = all_left HasNoNewline p.lines runs.1 own_parts; not_blank = runs.6 }) refusal left is

    -- a run before the others
    with_run : (bodies : Result Entries Refusal) (s : CheckedStream) → HasRefusalWithin (item_of p bodies) → AreInOrder after (runs.1 ++ more) s.items s.end → AreInOrder n (lines ++ more) (item_of p bodies ∷ s.items) s.end
    with_run bodies s within rest = (
      runs.0,
      runs.1 ++ more,
      ap (λ ls. ls ++ more) runs.2 ∙ append_assoc runs.0 (p.lines ++ runs.1) more ∙ ap (λ ls. runs.0 ++ ls) (append_assoc p.lines runs.1 more),
      runs.4,
      runs.5,
      within,
      subst (λ k. AreInOrder (k + length p.lines) (runs.1 ++ more) s.items s.end) (sym runs.4) rest,
    )

    at_one : ((passed : List Entries) → AreInOrder after (runs.1 ++ more) (stream passed left).items (stream passed left).end) → (a : Result (Option Entries) Refusal) → answer_behind rules beyond nb before (p ∷ left) ≡ a → AreInOrder n (lines ++ more) (with_answer (is_end_under paragraph_limit rules p) p before a (λ passed. stream passed left)).items (with_answer (is_end_under paragraph_limit rules p) p before a (λ passed. stream passed left)).end
    at_one rest (Ok None) is = tt
    at_one rest (Ok (Some entries)) is = with_run (Ok entries) (stream (before ++ entries ∷ []) left) tt (rest (before ++ entries ∷ []))
    at_one rest (Err refusal) is = go (is_end_under paragraph_limit rules p refusal) refl
      where
        go : (t : Bool) → is_end_under paragraph_limit rules p refusal ≡ t → AreInOrder n (lines ++ more) (cond t (ended_by (Some refusal)) (with_item (item_of p (Err refusal)) (stream before left))).items (cond t (ended_by (Some refusal)) (with_item (item_of p (Err refusal)) (stream before left))).end
        go true e =
            let is_told = one_told refusal is in
            (omega (arith, runs.4, is_told.from), omega (arith, runs.4, is_told.most, after_it, length-append lines more))
        go false e = with_run (Err refusal) (stream before left) ((one_told refusal is).from, (one_told refusal is).within e) (rest before)

  in_order : (before : List Entries) (n : ℕ) (lines : List Line) (left : List Paragraph) → AreRuns n lines left → AreLeft n lines → AreInOrder n (lines ++ more) (stream before left).items (stream before left).end
  in_order before n lines [] runs are = at_end before n lines are (answer_behind rules beyond nb before []) refl
  in_order before n lines (p ∷ left) runs are =
      at_one before n lines p left runs are (λ passed. in_order passed (n + length runs.0 + length p.lines) runs.1 left runs.8 (rest_left before n lines p left runs are)) (answer_behind rules beyond nb before (p ∷ left)) refl

-- the line of the first byte beyond is the one after those that are looked at
cut_after : (text : List ℕ) → IfSome (line_beyond 1 file_limit text) (λ line. 1 + length (lines_of (part_within file_limit text)) ≡ line)
cut_after text = go (nat_le (length text) file_limit)
  where
    go : (t : Bool) → IfSome (cond t None (Some (1 + length (lines_of (part_within file_limit text))))) (λ line. 1 + length (lines_of (part_within file_limit text)) ≡ line)
    go true = tt
    go false = refl

pub runs_are_in_order : RunsAreInOrder
runs_are_in_order doc text =
    let part = part_within file_limit text in
    let front = part-front file_limit text in
    let stream = stream_of (rules_of doc) text in
    subst (λ lines. AreInOrder 1 lines stream.items stream.end) (sym front.1)
    (in_order (rules_of doc) (line_beyond 1 file_limit text) (line_behind text) front.0 [] 1 (lines_of part) (paragraphs_of part) (paragraphs_from-AreRuns (lines_of part) 1) (record {
      all = omega (arith, ap length front.1);
      cut = cut_after text;
      none = lines_of-no_newline part;
    }))

-- from a later line on is from an earlier one on
from_earlier : (n m : ℕ) (refusals : List Refusal) → n ≤ m → Ascend m refusals → Ascend n refusals
from_earlier n m [] h ascend = tt
from_earlier n m (refusal ∷ refusals) h ascend = (omega (arith, h, ascend.0), ascend.1)

ascend_in_order : (n : ℕ) (lines : List Line) (items : List CheckedItem) (end : Option Refusal) → AreInOrder n lines items end → Ascend n (refusals_in items end)
ascend_in_order n lines [] None h = tt
ascend_in_order n lines [] (Some refusal) h = (h.0, tt)
ascend_in_order n lines (item ∷ items) end h = go item.bodies h.5 (ascend_in_order (item.first + length item.lines) h.1 items end h.6)
  where
    go : (bodies : Result Entries Refusal) → IfErr bodies (λ refusal. (item.first ≤ refusal.line) × (refusal.line < item.first + length item.lines)) → Ascend (item.first + length item.lines) (refusals_in items end) → Ascend n (refusals_after bodies (refusals_in items end))
    go (Ok entries) within more = from_earlier n (item.first + length item.lines) (refusals_in items end) (omega (arith, h.3)) more
    go (Err refusal) within more = (omega (arith, h.3, within.0), from_earlier (refusal.line + 1) (item.first + length item.lines) (refusals_in items end) (omega (arith, within.1)) more)

pub refusals_ascend : RefusalsAscend
refusals_ascend doc text = ascend_in_order 1 (lines_of text) (stream_of (rules_of doc) text).items (stream_of (rules_of doc) text).end (runs_are_in_order doc text)
