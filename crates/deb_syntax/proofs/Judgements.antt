-- What is judged of one line, and of the lines up to it.
use Rattle.deb_syntax.proofs.Common.{◌≡◌, ℕ, ◌+◌, true, false, List, [], ◌∷◌, slice_range, Ok, Err, ap, sym, subst, ◌∙◌, IsUtf8, IsTrue, AllByRecursion, false≢true, false_from_ne_true, IsUtf8-from_is_utf8, is_utf8-from_IsUtf8, map-map, NotUtf8, Line, pieces_of, begins_with_blank, Field, line_judged, lines_judged, judged, continuation_line, field_line, ended, begun_at, begun_fields, fields_at, FieldSpan, IsUtf8-lines, Fault, IsFaultOf, Refusal, Refused, Memory, Read, Write}
use Rattle.deb_syntax.proofs.LineEnds.{pieces_from}
use Rattle.deb_syntax.proofs.LinesLaws.{joined-pieces_of}

-- what a check for UTF-8 answered
module _ (n : ℕ) (fields : List Field) (line : Line) where
  pub line_judged-not_utf8 : (IsUtf8 line → IsTrue false) → line_judged n fields line ≡ Err (record { code = NotUtf8; line = n })
  line_judged-not_utf8 refuses = rw (false_from_ne_true _ (λ e. false≢true (refuses (IsUtf8-from_is_utf8 line e))))

  pub line_judged-continuation : IsUtf8 line → begins_with_blank line ≡ true → line_judged n fields line ≡ continuation_line n fields line
  line_judged-continuation utf8 blank = rw (is_utf8-from_IsUtf8 line utf8, blank)

  pub line_judged-field : IsUtf8 line → begins_with_blank line ≡ false → line_judged n fields line ≡ field_line n fields line
  line_judged-field utf8 other = rw (is_utf8-from_IsUtf8 line utf8, other)

-- the line from `start` to `end` is judged after the lines before it
module _ (text : List ℕ) (first n start : ℕ) (spans : List FieldSpan)
    (so_far : judged first (pieces_of text) ≡ lines_judged n (Ok (begun_fields text spans)) (pieces_from text start)) where
  pub judged-step : (end : ℕ) (more : List FieldSpan) → pieces_from text start ≡ slice_range text start end ∷ pieces_from text (end + 1) → line_judged n (begun_fields text spans) (slice_range text start end) ≡ Ok (begun_fields text more) → judged first (pieces_of text) ≡ lines_judged (n + 1) (Ok (begun_fields text more)) (pieces_from text (end + 1))
  judged-step end more pieces ok =
      so_far ∙ ap (lines_judged n (Ok (begun_fields text spans))) pieces
      ∙ ap (λ r. lines_judged (n + 1) r (pieces_from text (end + 1))) ok

  pub judged-refused : (end : ℕ) (refusal : Refusal) → pieces_from text start ≡ slice_range text start end ∷ pieces_from text (end + 1) → line_judged n (begun_fields text spans) (slice_range text start end) ≡ Err refusal → judged first (pieces_of text) ≡ Err refusal
  judged-refused end refusal pieces h =
      so_far ∙ ap (lines_judged n (Ok (begun_fields text spans))) pieces
      ∙ ap (λ r. lines_judged (n + 1) r (pieces_from text (end + 1))) h

  pub judged-fault : (end : ℕ) (fault : Fault) → pieces_from text start ≡ slice_range text start end ∷ pieces_from text (end + 1) → IsFaultOf (line_judged n (begun_fields text spans) (slice_range text start end)) fault → IsFaultOf (judged first (pieces_of text)) fault
  judged-fault end (Refused refusal) pieces h = judged-refused end refusal pieces h
  judged-fault end Memory pieces h = tt
  judged-fault end Read pieces h = h
  judged-fault end Write pieces h = h

  -- no line is left
  pub judged-whole : pieces_from text start ≡ [] → judged first (pieces_of text) ≡ Ok (fields_at text spans)
  judged-whole none = so_far ∙ ap (lines_judged n (Ok (begun_fields text spans))) none ∙ ap Ok (map-map ended (begun_at text) spans)

-- the pieces of a text that is UTF-8 are
pub utf8_pieces : (text : List ℕ) → IsUtf8 text → AllByRecursion IsUtf8 (pieces_of text)
utf8_pieces text utf8 = IsUtf8-lines (pieces_of text) (subst IsUtf8 (sym (joined-pieces_of text)) utf8)

pub ruleset judging = (line_judged-not_utf8, line_judged-continuation, line_judged-field, utf8_pieces)
