-- The paragraph that was judged last is the next one of a text, where its lines are judged.
use Rattle.deb_syntax.proofs.Common.{take, ◌≡◌, ℕ, ◌+◌, ◌≤◌, cond-true, cond-false, List, [], ◌∷◌, ◌++◌, Option, Some, None, Ok, Err, length, refl, sym, ap, ◌∙◌, subst, arith, IsTrue, leb, le-leb, lt-leb, pieces_of, ParagraphTooLong, Fault, Refused, Memory, Read, Write, Extent, IsExtentOf, Seen, next_answer, paragraphs_within, cursor_state, buffer_of, start_of, FileCursor, judged, Paragraph, paragraphs_of, State, passed_count, IsReadersFault, IsFaultOf, IsRefusalOfText, stands_within}
use Rattle.std.specs.Prelude.{slice_get}
use Rattle.deb_base.specs.Codes.{number_of}
use Rattle.deb_syntax.specs.Judged.{judged_by, lines_standing, ShowsJudged, IsRefusalOfLength}
use Rattle.deb_base.specs.Bodies.{paragraph_limit}
use Rattle.deb_syntax.specs.Extents.{AreNotBlank}
use Rattle.deb_syntax.specs.Lines.{total_length}
use Rattle.deb_syntax.specs.Passing.{CanBeJudged}
use Rattle.deb_syntax.specs.Resuming.{HasPassed}
use Rattle.deb_syntax.specs.declared.paragraphs.CurrentParagraph.{CurrentParagraph}
use Rattle.deb_syntax.proofs.Advancing.{standing_bytes}
use Rattle.deb_syntax.proofs.Faults.{readers_fault}
use Rattle.deb_syntax.proofs.CursorLemmas.{unread_within}
use Rattle.deb_syntax.proofs.JudgingLawsRefusals.{judged-refusal}

slice_get-seam : {X : Type 0} (xs : List X) (x : X) (ys : List X) → slice_get (xs ++ x ∷ ys) (length xs) ≡ Some x
slice_get-seam [] x ys = refl
slice_get-seam (y ∷ xs) x ys = slice_get-seam xs x ys

-- a refusal of a length is one of a text
pub length_is_text : (fault : Fault) → IsReadersFault fault IsRefusalOfLength → IsReadersFault fault IsRefusalOfText
length_is_text fault is = readers_fault fault (λ refusal r. record { least = omega (arith, r.least); most = r.most; line = r.line }) is

pub is_length_refusal : (n : ℕ) → IsRefusalOfLength (record { code = ParagraphTooLong; line = n + 1 })
is_length_refusal n = record { least = omega arith; most = omega arith; line = omega arith }

-- a fault of judged lines is of a line
pub judged_code : (n : ℕ) (lines : List (List ℕ)) (fault : Fault) → IsFaultOf (judged n lines) fault → IsReadersFault fault (λ refusal. number_of refusal.code ≤ 7)
judged_code n lines (Refused refusal) is = (judged-refusal n lines refusal is).most
judged_code n lines Memory is = tt
judged_code n lines Read is = absurd is
judged_code n lines Write is = absurd is

-- where a paragraph's lines are in the buffer
module _ (mid : FileCursor) (buffer : List ℕ) (e : Extent) (from n : ℕ) (same : buffer ≡ buffer_of mid) (at : from ≡ start_of mid) (x : IsExtentOf e (cursor_state mid)) where
  abbrev pub standing : CurrentParagraph
  standing = record { from = from; to = from + e.end; first_line = n }

  pub lines_stand : 1 ≤ n → IsTrue (stands_within buffer [] (Some standing))
  lines_stand some =
      let room : from + e.end ≤ length buffer = omega (arith, at, x.end_within, unread_within mid, ap length same) in
      rw (le-leb from (from + e.end) (omega arith), le-leb (from + e.end) (length buffer) room, le-leb 1 n some) refl

  -- they can be judged
  pub standing_judgeable : 1 ≤ n → n + length (pieces_of (take e.end (cursor_state mid).unread)) ≤ 4294967296 → CanBeJudged (lines_standing buffer standing)
  standing_judgeable some few =
      let is : (lines_standing buffer standing).lines ≡ pieces_of (take e.end (cursor_state mid).unread) = ap pieces_of (standing_bytes mid buffer e from [] same at x) in
      record {
        not_blank = subst AreNotBlank (sym is) x.not_blank;
        short = subst (λ ls. total_length ls ≤ paragraph_limit) (sym is) x.short;
        first = some;
        numbered = omega (arith, few, ap length is);
      }

  -- they are those of the paragraph that was found
  pub standing_passed : (text passed : List ℕ) (new : State) (left : Option (List ℕ)) (first : ℕ) → n ≡ first → HasPassed text passed (record { first = first; lines = pieces_of (take e.end (cursor_state mid).unread) }) new left → HasPassed text passed (lines_standing buffer standing) new left
  standing_passed text passed new left first is h =
      subst (λ k. HasPassed text passed (record { first = k; lines = (lines_standing buffer standing).lines }) new left) (sym is)
      (subst (λ ls. HasPassed text passed (record { first = first; lines = ls }) new left) (ap pieces_of (sym (standing_bytes mid buffer e from [] same at x))) h)

-- after what has passed, what was judged is the next paragraph
module _ (text passed : List ℕ) where
  next_found : (p : Paragraph) (new : State) (left : Option (List ℕ)) → HasPassed text passed p new left → slice_get (paragraphs_within text) (passed_count passed) ≡ Some p
  next_found p new left h = ap (λ ps. slice_get ps (passed_count passed)) h.next ∙ slice_get-seam (paragraphs_of passed) p h.more

  pub shows_found : (seen : Seen) (p : Paragraph) (new : State) (left : Option (List ℕ)) → next_answer text (passed_count passed) ≡ Ok (Some seen) → HasPassed text passed p new left → ShowsJudged text (passed_count passed) (Ok (Some seen)) (Some p)
  shows_found seen p new left answer h =
      sym (ap (λ a. judged_by a (slice_get (paragraphs_within text) (passed_count passed))) answer ∙ next_found p new left h)

  pub shows_refused : (fault : Fault) (p : Paragraph) (new : State) (left : Option (List ℕ)) → IsReadersFault fault (λ refusal. next_answer text (passed_count passed) ≡ Err refusal) → IsReadersFault fault (λ refusal. number_of refusal.code ≤ 7) → HasPassed text passed p new left → ShowsJudged text (passed_count passed) (Err fault) (Some p)
  shows_refused Memory p new left answers of_line h = tt
  shows_refused Read p new left answers of_line h = tt
  shows_refused Write p new left answers of_line h = absurd answers
  shows_refused (Refused refusal) p new left answers of_line h =
      sym (ap (λ answer. judged_by answer (slice_get (paragraphs_within text) (passed_count passed))) answers ∙ cond-true (leb (number_of refusal.code) 7) _ _ (le-leb (number_of refusal.code) 7 of_line) ∙ next_found p new left h)

-- where nothing was judged
pub shows_none : (text passed : List ℕ) (fault : Fault) (last : Option Paragraph) → last ≡ None → IsReadersFault fault (λ refusal. next_answer text (passed_count passed) ≡ Err refusal) → IsReadersFault fault IsRefusalOfLength → ShowsJudged text (passed_count passed) (Err fault) last
shows_none text passed (Refused refusal) last none answer is =
    none ∙ sym (ap (λ a. judged_by a (slice_get (paragraphs_within text) (passed_count passed))) answer ∙ cond-false (leb (number_of refusal.code) 7) _ _ (lt-leb (number_of refusal.code) 7 (omega (arith, is.least))))
shows_none text passed Memory last none answer is = tt
shows_none text passed Read last none answer is = tt
shows_none text passed Write last none answer is = absurd is

pub shows_end : (text passed : List ℕ) (last : Option Paragraph) → last ≡ None → next_answer text (passed_count passed) ≡ Ok None → ShowsJudged text (passed_count passed) (Ok None) last
shows_end text passed last none answer = none ∙ sym (ap (λ a. judged_by a (slice_get (paragraphs_within text) (passed_count passed))) answer)
