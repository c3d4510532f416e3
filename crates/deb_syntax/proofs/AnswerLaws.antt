-- What the answers on a file say of the whole file: a refusal is of one of its lines, and none comes exactly where the
-- file is accepted.
use Rattle.deb_syntax.proofs.Common.{◌≡◌, ℕ, suc, ◌+◌, ◌-◌, ◌<◌, ◌≤◌, ◌==◌, inl, inr, Bool, true, false, List, [], ◌∷◌, ◌++◌, Option, Some, None, Result, Ok, Err, MatchOption, MatchResult, length, drop, take, leb, refl, sym, ap, ◌∙◌, append_assoc, arith, length-append, length-drop, cases_lt, cond_both, false≢true, leb-true, leb-false, drop_all, take-append-drop, sum_by-cons, MatchOption-at_none, MatchResult-at_ok, MatchResult-at_err, drop-length, AllByRecursion, ParagraphTooLong, FileTooLong, Refusal, newline, line_length, Line, paragraph_limit, All-drop, All-weaker, Seen, with_whole, whole_lines, part_within, line_beyond, line_too_long, is_line, seen_from, paragraph_answer, answer_of_first, paragraphs_within, next_answer, Field, IsShort, judged, IsRun, StandsAmong, IsTextRefusal, Paragraph, lines_of, paragraphs_of, ends_line, total_length, file_limit, Entries, entries_of, HaveMeanings, Accepted}
use Rattle.deb_syntax.proofs.Boundaries.{lines_of-append}
use Rattle.deb_syntax.proofs.JudgingLaws.{judged-complete}
use Rattle.deb_syntax.proofs.JudgingLawsRefusals.{judged-refusal, judged-sound}
use Rattle.deb_syntax.proofs.LeftAnswers.{line_too_long-none}
use Rattle.deb_syntax.proofs.LinesLawsPlaces.{paragraphs_of-IsRun, paragraphs_of-StandsAmong}
use Rattle.deb_syntax.proofs.LinesLawsTexts.{lines_of-some}
use Rattle.deb_syntax.proofs.Parts.{part_within-all, part_within-some, line_beyond-none}

-- what is left of a text after its whole lines
behind_whole : (text : List ℕ) → (rest : List ℕ) × (text ≡ whole_lines text ++ rest) × (ends_line (whole_lines text) ≡ true)
behind_whole [] = ([], refl, refl)
behind_whole (b ∷ bs) = let h = behind_whole bs in go (b == newline) refl (whole_lines bs) h.0 h.1 h.2
  where
    go : (t : Bool) → (b == newline) ≡ t → (whole rest : List ℕ) → bs ≡ whole ++ rest → ends_line whole ≡ true → (left : List ℕ) × (b ∷ bs ≡ with_whole b whole ++ left) × (ends_line (with_whole b whole) ≡ true)
    go true is [] rest e h = (rest, rw is (ap (λ l. b ∷ l) e), rw is is)
    go false is [] rest e h = (b ∷ bs, rw is refl, rw is refl)
    go t is (c ∷ whole) rest e h = (rest, ap (λ l. b ∷ l) e, h)

-- a text with bytes has a line
has_line : (text : List ℕ) → 0 < length text → 1 ≤ length (lines_of text)
has_line [] h = absurd (omega (arith, h))
has_line (b ∷ bs) h = let some = lines_of-some b bs in let e : length (lines_of (b ∷ bs)) ≡ suc (length some.1) = ap length some.2 in omega (arith, e)

-- of a text that is too long a line isn't looked at
part_within-fewer : (room : ℕ) (text : List ℕ) → room < length text → 1 + length (lines_of (part_within room text)) ≤ length (lines_of text)
part_within-fewer room text long =
    let w = behind_whole (take room text) in
    let whole : List ℕ = whole_lines (take room text) in
    let more : List ℕ = w.0 ++ drop room text in
    let is : text ≡ whole ++ more = sym (take-append-drop room text) ∙ ap (λ l. l ++ drop room text) w.1 ∙ append_assoc whole w.0 (drop room text) in
    let some : 1 ≤ length (lines_of more) = has_line more (omega (arith, length-append w.0 (drop room text), length-drop room text)) in
    let lines : length (lines_of text) ≡ length (lines_of whole) + length (lines_of more) = ap (λ l. length (lines_of l)) is ∙ ap length (lines_of-append whole more w.2) ∙ length-append (lines_of whole) (lines_of more) in
    let part : length (lines_of (part_within room text)) ≡ length (lines_of whole) = ap (λ l. length (lines_of l)) (part_within-some room text long) in
    omega arith

part_within-lines : (room : ℕ) (text : List ℕ) → length (lines_of (part_within room text)) ≤ length (lines_of text)
part_within-lines room text =
    elim (cases_lt room (length text)) [
      | inl long ↦ let fewer = part_within-fewer room text long in omega (arith, fewer)
      | inr short ↦ let same : length (lines_of (part_within room text)) ≡ length (lines_of text) = ap (λ l. length (lines_of l)) (part_within-all room text short) in omega arith
    ]

-- the text fits, or the line of the first byte beyond is one of the text's, and one that isn't looked at
abbrev IsBeyond : ℕ → List ℕ → Option ℕ → Type 0
IsBeyond room text beyond = MatchOption beyond (length text ≤ room) (λ line. (1 ≤ line) × (line ≤ length (lines_of text)) × (1 + length (lines_of (part_within room text)) ≤ length (lines_of text)))

line_beyond-says : (room : ℕ) (text : List ℕ) → IsBeyond room text (line_beyond 1 room text)
line_beyond-says room text =
    cond_both (leb (length text) room) _ _ (IsBeyond room text) (leb-true (length text) room)
    (λ long. let fewer = part_within-fewer room text (leb-false (length text) room long) in (omega arith, omega (arith, fewer), fewer))

-- lines are short, or the line with which they are too long is one of them
abbrev IsTooLong : ℕ → ℕ → List Line → Option ℕ → Type 0
IsTooLong n room lines long = MatchOption long (total_length lines ≤ room) (λ line. (n ≤ line) × (line < n + length lines))

line_too_long-says : (n room : ℕ) (lines : List Line) → IsTooLong n room lines (line_too_long n room lines)
line_too_long-says n room [] = omega arith
line_too_long-says n room (l ∷ lines) =
    cond_both (leb (line_length l) room) _ _ (IsTooLong n room (l ∷ lines))
    (λ fits. later (line_too_long (n + 1) (room - line_length l) lines) (leb-true (line_length l) room fits) (line_too_long-says (n + 1) (room - line_length l) lines))
    (λ _. (omega arith, omega arith))
  where
    later : (long : Option ℕ) → line_length l ≤ room → IsTooLong (n + 1) (room - line_length l) lines long → IsTooLong n room (l ∷ lines) long
    later None fits rest = let sum : total_length (l ∷ lines) ≡ line_length l + total_length lines = sum_by-cons line_length l lines in omega (arith, rest)
    later (Some line) fits w = (omega (arith, w.0), omega (arith, w.1))

-- a paragraph's lines are among the first n
abbrev IsAmong : ℕ → Paragraph → Type 0
IsAmong n p = (1 ≤ p.first) × (p.first + length p.lines ≤ 1 + n)

among-stands : (lines : List Line) (p : Paragraph) → StandsAmong 1 lines p → IsAmong (length lines) p
among-stands lines p s =
    let number : p.first ≡ 1 + length s.before = s.number in
    let size : length lines ≡ length s.before + length (p.lines ++ s.behind) = ap length s.is ∙ length-append s.before (p.lines ++ s.behind) in
    (omega arith, omega (arith, length-append p.lines s.behind))

-- an answer of no further paragraph comes where the text fits and none is left, and a refusal is of the text
abbrev Says : List ℕ → Option ℕ → List Paragraph → Result (Option Seen) Refusal → Type 0
Says text beyond ps r = MatchResult r (λ seen. seen ≡ None → (beyond ≡ None) × (ps ≡ [])) (IsTextRefusal text)

module _ (text : List ℕ) where
  abbrev looked : ℕ
  looked = length (lines_of (part_within file_limit text))

  paragraph-says : (beyond : Option ℕ) → IsBeyond file_limit text beyond → (p : Paragraph) (ps : List Paragraph) → IsAmong looked p → (long : Option ℕ) → IsTooLong p.first paragraph_limit p.lines long → Says text beyond (p ∷ ps) (paragraph_answer long beyond p)
  paragraph-says beyond b p ps among (Some line) w = let within = part_within-lines file_limit text in record { first = omega (arith, among.0, w.0); last = omega (arith, among.1, w.1, within); least = omega arith; most = omega arith }
  paragraph-says beyond b p ps among None w =
      cond_both (is_line (p.first + length p.lines) beyond) _ _ (Says text beyond (p ∷ ps))
      (λ is. let fewer = cut beyond b is in record { first = omega (arith, among.0); last = omega (arith, among.1, fewer); least = omega arith; most = omega arith })
      (λ _. judged_so (judged p.first p.lines) refl)
    where
      cut : (o : Option ℕ) → IsBeyond file_limit text o → is_line (p.first + length p.lines) o ≡ true → 1 + looked ≤ length (lines_of text)
      cut None bounds is = absurd (false≢true is)
      cut (Some line) bounds is = bounds.2

      judged_so : (r : Result (List Field) Refusal) → judged p.first p.lines ≡ r → Says text beyond (p ∷ ps) (seen_from p.first r)
      judged_so (Ok fields) e = λ none. absurd (let z : ⊥ = cc in z)
      judged_so (Err refusal) e =
          let r = judged-refusal p.first p.lines refusal e in
          let within = part_within-lines file_limit text in
          record { first = omega (arith, among.0, r.first); last = omega (arith, among.1, r.last, within); least = r.least; most = omega (arith, r.most) }

  first-says : (beyond : Option ℕ) → IsBeyond file_limit text beyond → (ps : List Paragraph) → AllByRecursion (IsAmong looked) ps → Says text beyond ps (answer_of_first beyond ps)
  first-says None b [] among = λ _. (refl, refl)
  first-says (Some line) b [] among = record { first = b.0; last = b.1; least = omega arith; most = omega arith }
  first-says None b (p ∷ ps) among = paragraph-says None b p ps among.0 _ (line_too_long-says p.first paragraph_limit p.lines)
  first-says (Some line) b (p ∷ ps) among = paragraph-says (Some line) b p ps among.0 _ (line_too_long-says p.first paragraph_limit p.lines)

  next_answer-says : (count : ℕ) → Says text (line_beyond 1 file_limit text) (drop count (paragraphs_within text)) (next_answer text count)
  next_answer-says count =
      let part : List ℕ = part_within file_limit text in
      first-says (line_beyond 1 file_limit text) (line_beyond-says file_limit text) (drop count (paragraphs_within text))
      (All-drop (IsAmong looked) count (paragraphs_within text) (All-weaker (StandsAmong 1 (lines_of part)) (IsAmong looked) (among-stands (lines_of part)) (paragraphs_within text) (paragraphs_of-StandsAmong part)))

-- a refusal is of one of the text's lines
pub next_answer-refusal : (text : List ℕ) (count : ℕ) (refusal : Refusal) → next_answer text count ≡ Err refusal → IsTextRefusal text refusal
next_answer-refusal text count refusal h = MatchResult-at_err _ (IsTextRefusal text) refusal h (next_answer-says text count)

-- the answers on a text that fits
answer-fits : (text : List ℕ) (count : ℕ) → length text ≤ file_limit → next_answer text count ≡ answer_of_first None (drop count (paragraphs_of text))
answer-fits text count short =
    ap (λ b. answer_of_first b (drop count (paragraphs_within text))) (line_beyond-none 1 file_limit text short)
    ∙ ap (λ t. answer_of_first None (drop count (paragraphs_of t))) (part_within-all file_limit text short)

-- they end exactly after its last paragraph
pub next_answer-end : (text : List ℕ) (count : ℕ) → next_answer text count ≡ Ok None → (length text ≤ file_limit) × (length (paragraphs_of text) ≤ count)
next_answer-end text count h =
    let e = MatchResult-at_ok (λ seen. seen ≡ None → (line_beyond 1 file_limit text ≡ None) × (drop count (paragraphs_within text) ≡ [])) (IsTextRefusal text) None h (next_answer-says text count) refl in
    let short = MatchOption-at_none (length text ≤ file_limit) _ e.0 (line_beyond-says file_limit text) in
    let same : length (paragraphs_within text) ≡ length (paragraphs_of text) = ap (λ t. length (paragraphs_of t)) (part_within-all file_limit text short) in
    let none : length (paragraphs_within text) - count ≡ 0 = sym (length-drop count (paragraphs_within text)) ∙ ap length e.1 in
    (short, omega arith)

pub next_answer-behind : (text : List ℕ) (count : ℕ) → length text ≤ file_limit → length (paragraphs_of text) ≤ count → next_answer text count ≡ Ok None
next_answer-behind text count short behind = answer-fits text count short ∙ ap (answer_of_first None) (drop_all count (paragraphs_of text) behind)

-- a paragraph that is short and whose lines are judged fields
abbrev IsRead : Paragraph → Type 0
IsRead p = IsShort p × ((fields : List Field) × (judged p.first p.lines ≡ Ok fields))

read-means : (ps : List Paragraph) (meaning : List Entries) → AllByRecursion (λ p. IsRun p.lines) ps → AllByRecursion IsShort ps → HaveMeanings ps meaning → AllByRecursion IsRead ps
read-means [] meaning runs short means = tt
read-means (p ∷ ps) [] runs short means = absurd means
read-means (p ∷ ps) (entries ∷ meaning) runs short means =
    ((short.0, (means.0.0, judged-complete p.first p.lines means.0.0 runs.0.no_newline means.0.1)), read-means ps meaning runs.1 short.1 means.1)

-- the answer on paragraphs that are left of a text that fits
answer-first : (p : Paragraph) (ps : List Paragraph) → IsShort p → answer_of_first None (p ∷ ps) ≡ seen_from p.first (judged p.first p.lines)
answer-first p ps short = ap (λ long. paragraph_answer long None p) (line_too_long-none p.first paragraph_limit p.lines short)

read-answered : (ps : List Paragraph) (refusal : Refusal) → AllByRecursion IsRead ps → answer_of_first None ps ≡ Err refusal → ⊥
read-answered [] refusal read h = cc
read-answered (p ∷ ps) refusal read h = let e = answer-first p ps read.0.0 ∙ ap (seen_from p.first) read.0.1.1 in cc

-- no answer on an accepted file is a refusal
pub accepted-answers : (text : List ℕ) (meaning : List Entries) → Accepted text meaning → (count : ℕ) (refusal : Refusal) → ¬ (next_answer text count ≡ Err refusal)
accepted-answers text meaning accepted count refusal h =
    read-answered (drop count (paragraphs_of text)) refusal
    (All-drop IsRead count (paragraphs_of text) (read-means (paragraphs_of text) meaning (paragraphs_of-IsRun text) accepted.paragraphs_short accepted.means))
    (sym (answer-fits text count accepted.short) ∙ h)

-- paragraphs on which no answer is a refusal are short and mean something
answered-means : (ps : List Paragraph) → AllByRecursion (λ p. IsRun p.lines) ps → ((count : ℕ) (refusal : Refusal) → ¬ (answer_of_first None (drop count ps) ≡ Err refusal)) → AllByRecursion IsShort ps × ((meaning : List Entries) × HaveMeanings ps meaning)
answered-means [] runs none = (tt, ([], tt))
answered-means (p ∷ ps) runs none = go (line_too_long p.first paragraph_limit p.lines) refl (judged p.first p.lines) refl (answered-means ps runs.1 (λ count. none (suc count)))
  where
    go : (long : Option ℕ) → line_too_long p.first paragraph_limit p.lines ≡ long → (r : Result (List Field) Refusal) → judged p.first p.lines ≡ r → AllByRecursion IsShort ps × ((meaning : List Entries) × HaveMeanings ps meaning) → AllByRecursion IsShort (p ∷ ps) × ((meaning : List Entries) × HaveMeanings (p ∷ ps) meaning)
    go (Some line) is r e rest = absurd (none 0 (record { code = ParagraphTooLong; line = line }) (ap (λ long. paragraph_answer long None p) is))
    go None is (Err refusal) e rest = absurd (none 0 refusal (ap (λ long. paragraph_answer long None p) is ∙ ap (seen_from p.first) e))
    go None is (Ok fields) e rest =
        let short : IsShort p = MatchOption-at_none (IsShort p) _ is (line_too_long-says p.first paragraph_limit p.lines) in
        ((short, rest.0), (entries_of fields ∷ rest.1.0, ((fields, judged-sound p.first p.lines fields runs.0 short e, refl), rest.1.1)))

-- a file on which no answer is a refusal is accepted
pub answers-accepted : (text : List ℕ) → ((count : ℕ) (refusal : Refusal) → ¬ (next_answer text count ≡ Err refusal)) → (meaning : List Entries) × Accepted text meaning
answers-accepted text none =
    let fits : line_beyond 1 file_limit text ≡ None = go (line_beyond 1 file_limit text) refl in
    let short : length text ≤ file_limit = MatchOption-at_none (length text ≤ file_limit) _ fits (line_beyond-says file_limit text) in
    let m = answered-means (paragraphs_of text) (paragraphs_of-IsRun text) (λ count refusal h. none count refusal (answer-fits text count short ∙ h)) in
    (m.1.0, record { short = short; paragraphs_short = m.0; means = m.1.1 })
  where
    go : (beyond : Option ℕ) → line_beyond 1 file_limit text ≡ beyond → beyond ≡ None
    go None is = refl
    go (Some line) is = absurd (none (length (paragraphs_within text)) (record { code = FileTooLong; line = line }) (ap (λ b. answer_of_first b (drop (length (paragraphs_within text)) (paragraphs_within text))) is ∙ ap (answer_of_first (Some line)) (drop-length (paragraphs_within text))))
