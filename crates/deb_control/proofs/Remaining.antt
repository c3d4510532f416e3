-- What remains of a file without its refused runs is accepted with exactly the paragraphs that pass.
use Rattle.std.proofs.Common.{◌≡◌, ◌&&◌, ◌+◌, ◌==◌, ◌≤◌, ◌++◌, Bool, ℕ, true, false, cond, inl, inr, not, List, [], ◌∷◌, length, map, take, Option, None, Some, Result, Ok, Err, refl, sym, ap, ◌∙◌, subst, arith, append_assoc, length-append}
use Rattle.std.proofs.lemmas.Bool.{cases_lt}
use Rattle.std.proofs.lemmas.List.{length-map, length-take-le}
use Rattle.std.proofs.lemmas.List.Sums.{sum_by-append, sum_by-cons}
use Rattle.std.specs.List.{AllByRecursion}
use Rattle.deb_base.specs.Bodies.{HasNoNewline, Line, is_blank, joined, line_length, newline, pieces_of, with_byte, file_limit}
use Rattle.deb_base.specs.Docs.{is_single}
use Rattle.deb_base.specs.declared.doc.Doc.{Doc}
use Rattle.deb_base.specs.declared.refusal.Refusal.{Refusal}
use Rattle.deb_field.specs.ValueLaws.{value_law}
use Rattle.deb_field.specs.Values.{ValueMeaning, value_text, SpellsValue}
use Rattle.deb_syntax.proofs.JudgingLaws.{all_right}
use Rattle.deb_syntax.proofs.LinesLaws.{joined-pieces_of, pieces_of-joined, pieces_of-some}
use Rattle.deb_syntax.proofs.LinesLawsRuns.{paragraphs_from-AreRuns}
use Rattle.deb_syntax.proofs.LinesLawsTexts.{lines_of-no_newline, lines_of-some, pieces_of-no_newline}
use Rattle.deb_syntax.proofs.NextParagraph.{no_paragraph}
use Rattle.deb_syntax.proofs.Parts.{part_within-some}
use Rattle.deb_syntax.specs.Answers.{line_beyond, part_within, whole_lines, with_whole}
use Rattle.deb_syntax.specs.Extents.{AreBlank}
use Rattle.deb_syntax.specs.Lines.{lines_of, paragraphs_from, paragraphs_of, total_length, with_line}
use Rattle.deb_syntax.specs.Meaning.{Entries}
use Rattle.deb_control.proofs.Accepting.{accepted-from_none, outcome-accepted}
use Rattle.deb_control.proofs.DocumentRules.{document_rules}
use Rattle.deb_control.proofs.FileText.{is_blank-nil}
use Rattle.deb_control.proofs.Limits.{length-within, line_beyond-none, part_within-whole}
use Rattle.deb_control.proofs.PartsWithin.{part-front}
use Rattle.deb_control.proofs.Passing.{AllPass, last-from_parts, outcome-from_pass}
use Rattle.deb_control.specs.Canonical.{file_text}
use Rattle.deb_control.specs.Documents.{rules_of}
use Rattle.deb_control.specs.Refusals.{has_some, line_behind, outcome, outcome_behind}
use Rattle.deb_control.specs.Streams.{CheckedItem, CheckedStream, stream_of}
use Rattle.deb_control.specs.ValueFiles.{bodies_of, body_under}
use Rattle.deb_control.proofs.RemainingLines.{Remains, all_remain, blank_begins, remains, tail_length}
use Rattle.deb_control.specs.AllRefusals.{passed_among, passed_with}
use Rattle.deb_control.specs.Remaining.{AllRemains, RemainingIsAccepted, bodies_before, passed_bodies, passed_lines, remaining_lines, remaining_of}

with_byte-front : (b : ℕ) (first : Line) (others lines tail : List Line) → lines ≡ first ∷ others → with_byte b (lines ++ tail) ≡ with_byte b lines ++ tail
with_byte-front b first others [] tail some = absurd (cc)
with_byte-front b first others (line ∷ lines) tail some = refl

-- the pieces of a text are its lines, and perhaps an empty one
piece_lines : (text : List ℕ) → (tail : List Line) × (pieces_of text ≡ lines_of text ++ tail) × AreBlank tail
piece_lines [] = ([] ∷ [], refl, (is_blank-nil, tt))
piece_lines (b ∷ []) = go (b == newline)
  where
    go : (t : Bool) → (tail : List Line) × (cond t ([] ∷ [] ∷ []) ((b ∷ []) ∷ []) ≡ cond t ([] ∷ []) ((b ∷ []) ∷ []) ++ tail) × AreBlank tail
    go true = ([] ∷ [], refl, (is_blank-nil, tt))
    go false = ([], refl, tt)
piece_lines (b ∷ c ∷ bs) =
    let more = piece_lines (c ∷ bs) in
    let some = lines_of-some c bs in
    (more.0, go (b == newline) more.0 some.0 some.1 (pieces_of (c ∷ bs)) (lines_of (c ∷ bs)) more.1 some.2, more.2)
  where
    go : (t : Bool) (tail : List Line) (first : Line) (others pieces lines : List Line) → pieces ≡ lines ++ tail → lines ≡ first ∷ others → cond t ([] ∷ pieces) (with_byte b pieces) ≡ cond t ([] ∷ lines) (with_byte b lines) ++ tail
    go true tail first others pieces lines is some = ap (λ ls. [] ∷ ls) is
    go false tail first others pieces lines is some = ap (with_byte b) is ∙ with_byte-front b first others lines tail some

-- lines that are joined have a newline less than their lengths count
joined_length : (line : Line) (lines : List Line) → length (joined (line ∷ lines)) + 1 ≡ total_length (line ∷ lines)
joined_length line [] = omega (arith, sum_by-cons line_length line [])
joined_length line (next ∷ lines) =
    omega (arith, length-append line (newline ∷ joined (next ∷ lines)), joined_length next lines, sum_by-cons line_length line (next ∷ lines))

joined_short : (n : ℕ) (lines : List Line) → total_length lines ≤ n + 1 → length (joined lines) ≤ n
joined_short n [] h = omega arith
joined_short n (line ∷ lines) h = omega (arith, joined_length line lines, h)

pieces_length : (text : List ℕ) → total_length (pieces_of text) ≡ length text + 1
pieces_length text =
    let some = pieces_of-some text in
    ap total_length some.2 ∙ sym (joined_length some.0 some.1) ∙ ap (λ ls. length (joined ls) + 1) (sym some.2) ∙ ap (λ t. length t + 1) (joined-pieces_of text)

-- blank lines at the end have no paragraph
paragraphs_before : (n : ℕ) (lines tail : List Line) → AreBlank tail → paragraphs_from n (lines ++ tail) ≡ paragraphs_from n lines
paragraphs_before n [] tail blank = no_paragraph n tail blank
paragraphs_before n (line ∷ []) tail blank = rw (no_paragraph (n + 1) tail blank, blank_begins tail blank) refl
paragraphs_before n (line ∷ next ∷ lines) tail blank =
    ap (λ ps. cond (is_blank line) ps (with_line n line (is_blank next) ps)) (paragraphs_before (n + 1) (next ∷ lines) tail blank)

-- the paragraphs of lines that are joined
paragraphs_of-joined : (lines : List Line) → AllByRecursion HasNoNewline lines → paragraphs_of (joined lines) ≡ paragraphs_from 1 lines
paragraphs_of-joined [] none = refl
paragraphs_of-joined (line ∷ lines) none =
    let pieces = piece_lines (joined (line ∷ lines)) in
    sym (paragraphs_before 1 (lines_of (joined (line ∷ lines))) pieces.0 pieces.2) ∙ ap (paragraphs_from 1) (sym pieces.1 ∙ pieces_of-joined line lines none)

whole_short : (text : List ℕ) → length (whole_lines text) ≤ length text
whole_short [] = omega arith
whole_short (b ∷ bs) = go (whole_lines bs) (whole_short bs)
  where
    either : (t : Bool) → length (cond t (b ∷ []) []) ≤ length (b ∷ bs)
    either true = omega arith
    either false = omega arith

    go : (whole : List ℕ) → length whole ≤ length bs → length (with_whole b whole) ≤ length (b ∷ bs)
    go [] h = either (b == newline)
    go (c ∷ whole) h = omega (arith, h)

pub part_short : (text : List ℕ) → (length (part_within file_limit text) ≤ length text) × (length (part_within file_limit text) ≤ file_limit)
part_short text =
    elim (cases_lt file_limit (length text)) [
      | inl long ↦
          let size : length (part_within file_limit text) ≤ file_limit =
          omega (arith, ap length (part_within-some file_limit text long), whole_short (take file_limit text), length-take-le file_limit text (omega (arith, long))) in
          (omega (arith, size, long), size)
      | inr short ↦ let same = ap length (part_within-whole text short) in (omega (arith, same), omega (arith, same, short))
    ]

no_more : (a b : List Line) → a ≡ a ++ b → b ≡ []
no_more a [] is = refl
no_more a (line ∷ b) is = absurd (omega (arith, ap length is, length-append a (line ∷ b)))

passed_count : (items : List CheckedItem) → length (passed_bodies items) ≡ passed_among items
passed_count [] = refl
passed_count (item ∷ items) = go item.bodies (passed_count items)
  where
    go : (bodies : Result Entries Refusal) → length (passed_bodies items) ≡ passed_among items → length (bodies_before bodies (passed_bodies items)) ≡ passed_with bodies (passed_among items)
    go (Ok entries) same = omega (arith, same)
    go (Err refusal) same = same

module _ (doc : Doc) (text : List ℕ) where
  abbrev part : List ℕ
  part = part_within file_limit text

  abbrev beyond : Option ℕ
  beyond = line_beyond 1 file_limit text

  abbrev stream : CheckedStream
  stream = stream_of (rules_of doc) text

  abbrev tail : List Line
  tail = (part-front file_limit text).0 ++ (piece_lines text).0

  cut : pieces_of text ≡ lines_of part ++ tail
  cut =
      (piece_lines text).1 ∙ ap (λ ls. ls ++ (piece_lines text).0) (part-front file_limit text).1
      ∙ append_assoc (lines_of part) (part-front file_limit text).0 (piece_lines text).0

  blank : beyond ≡ None → AreBlank tail
  blank fits =
      let same = part_within-whole text (length-within text fits) in
      let none = no_more (lines_of part) (part-front file_limit text).0 (ap lines_of same ∙ (part-front file_limit text).1) in
      subst (λ ls. AreBlank (ls ++ (piece_lines text).0)) (sym none) (piece_lines text).2

  whole : AllByRecursion HasNoNewline tail
  whole = all_right HasNoNewline (lines_of part) tail (subst (AllByRecursion HasNoNewline) cut (pieces_of-no_newline text))

  abbrev out : List Line
  out = remaining_lines 1 (pieces_of text) stream.items stream.end

  kept : Remains (rules_of doc) beyond [] (lines_of part) tail out stream.items
  kept =
      subst (λ ls. Remains (rules_of doc) beyond [] (lines_of part) tail (remaining_lines 1 ls stream.items stream.end) stream.items) (sym cut)
      (remains (rules_of doc) beyond (line_behind text) tail blank whole [] 1 (lines_of part) (paragraphs_of part) (paragraphs_from-AreRuns (lines_of part) 1) (lines_of-no_newline part))

  -- no byte more remains
  bounds : (o : Option ℕ) → beyond ≡ o → (total_length out ≤ length text + 1) × (total_length out ≤ file_limit + 1)
  bounds None fits =
      let size : total_length (lines_of part) + total_length tail ≡ length text + 1 = sym (sum_by-append line_length (lines_of part) tail) ∙ ap total_length (sym cut) ∙ pieces_length text in
      let most : total_length out ≤ length text + 1 = omega (arith, kept.short, ap (λ b. tail_length b tail) fits, size) in
      (most, omega (arith, most, length-within text fits))
  bounds (Some line) long =
      let pieces = piece_lines part in
      let size : total_length (lines_of part) + total_length pieces.0 ≡ length part + 1 = sym (sum_by-append line_length (lines_of part) pieces.0) ∙ ap total_length (sym pieces.1) ∙ pieces_length part in
      let most : total_length out ≤ length part + 1 = omega (arith, kept.short, ap (λ b. tail_length b tail) long, size) in
      (omega (arith, most, (part_short text).0), omega (arith, most, (part_short text).1))

  pub short : length (remaining_of doc text) ≤ length text
  short = joined_short (length text) out (bounds beyond refl).0

  within : length (remaining_of doc text) ≤ file_limit
  within = joined_short file_limit out (bounds beyond refl).1

  -- its paragraphs
  paragraphs : paragraphs_of (remaining_of doc text) ≡ paragraphs_from 1 out
  paragraphs = paragraphs_of-joined out kept.no_newline

  pub lines_kept : map (λ p. p.lines) (paragraphs_of (remaining_of doc text)) ≡ passed_lines stream.items
  lines_kept = ap (map (λ p. p.lines)) paragraphs ∙ kept.own 1

  -- what comes of it
  pub outcome_of_rest : is_single doc ≡ false → outcome (rules_of doc) (remaining_of doc text) ≡ record { passed = passed_bodies stream.items; refusal = None }
  outcome_of_rest many =
      let other = remaining_of doc text in
      let rules = rules_of doc in
      let passed = passed_bodies stream.items in
      ap (λ t. outcome_behind rules (line_beyond 1 file_limit other) (line_behind other) [] (paragraphs_of t)) (part_within-whole other within)
      ∙ ap (λ b. outcome_behind rules b (line_behind other) [] (paragraphs_of other)) (line_beyond-none other within)
      ∙ outcome-from_pass rules None (line_behind other) [] (paragraphs_of other) passed
      (subst (λ ps. AllPass rules None [] ps passed) (sym paragraphs) (kept.passes 1))
      (last-from_parts rules (line_behind other) passed (ap (λ s. s && not (has_some passed)) many))

pub remaining_is_accepted : RemainingIsAccepted
remaining_is_accepted doc text many =
    let other = remaining_of doc text in
    let items = (stream_of (rules_of doc) text).items in
    let comes = outcome_of_rest doc text many in
    let found = accepted-from_none ValueMeaning (SpellsValue doc) value_text (value_law doc) (rules_of doc) (document_rules doc) other (ap (λ o. o.refusal) comes) in
    let same = outcome-accepted ValueMeaning (SpellsValue doc) value_text (value_law doc) (rules_of doc) (document_rules doc) other found.0 found.1 in
    let bodies : bodies_of value_text found.0 ≡ passed_bodies items = ap (λ o. o.passed) (sym same ∙ comes) in
    record {
      meaning = found.0;
      accepted = found.1;
      count = sym (length-map found.0 (map (body_under value_text))) ∙ ap length bodies ∙ passed_count items;
      lines = lines_kept doc text;
      bodies = bodies;
      canonical = ap file_text bodies;
      short = short doc text;
    }

pub all_of_file_remains : AllRemains
all_of_file_remains doc text none =
    let items = (stream_of (rules_of doc) text).items in
    let end = (stream_of (rules_of doc) text).end in
    ap (λ ls. joined (remaining_lines 1 ls items end)) (cut doc text)
    ∙ ap joined (all_remain (rules_of doc) (line_beyond 1 file_limit text) (line_behind text) (tail doc text) (blank doc text) (whole doc text) [] 1 (lines_of (part doc text)) (paragraphs_of (part doc text)) (paragraphs_from-AreRuns (lines_of (part doc text)) 1) (lines_of-no_newline (part doc text)) none)
    ∙ ap joined (sym (cut doc text)) ∙ joined-pieces_of text
