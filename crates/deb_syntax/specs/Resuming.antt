-- How a reader of paragraphs goes on after a paragraph with a refused line. Debian Policy
-- 5.1; this project's own.
use Rattle.std.specs.Prelude.{◌≡◌, ◌≢◌, ℕ, ◌+◌, ◌≤◌, Bool, true, false, List, [], ◌∷◌, ◌++◌, length, take, Option, Some, None, Result, Ok, Err, codes, refl}
use Rattle.deb_base.specs.Bodies.{Line, paragraph_limit, pieces_of, file_limit}
use Rattle.deb_base.specs.Faults.{IsReadersFault}
use Rattle.deb_base.specs.Reading.{piece_limit}
use Rattle.deb_base.specs.declared.fault.Fault.{Fault}
use Rattle.deb_base.specs.declared.fault.Fault.TheVariants.{Refused, Memory, Read, Write}
use Rattle.deb_syntax.specs.Ahead.{passed_of}
use Rattle.deb_syntax.specs.Answers.{line_beyond, next_answer, paragraphs_within, seen_from}
use Rattle.deb_syntax.specs.Cursors.{CursorState, PassesOn}
use Rattle.deb_syntax.specs.Extents.{AreBlank}
use Rattle.deb_syntax.specs.Fields.{IsShort}
use Rattle.deb_syntax.specs.Judging.{judged}
use Rattle.deb_syntax.specs.Lines.{Paragraph, IsClosed, lines_of, paragraphs_of}
use Rattle.deb_syntax.specs.Reading.{Fits, State, passed_count, state_from}
use Rattle.deb_syntax.specs.declared.ending.Extent.{Extent}
use Rattle.deb_base.specs.declared.code.Code.TheVariants.{Comment, ParagraphTooLong}

-- whether a reader can go on after this error, where these lines were judged last: it is a refusal,
-- and lines were judged, so that it is of one of them
abbrev pub is_resumable : Option Fault → Option Paragraph → Bool
is_resumable (Some (Refused refusal)) (Some p) = true
is_resumable (Some (Refused refusal)) None = false
is_resumable (Some Memory) last = false
is_resumable (Some Read) last = false
is_resumable (Some Write) last = false
is_resumable None last = false

-- The next paragraph of the text, whose lines were judged, has passed: it, and no more than one
-- blank line after it. `front` is what had passed before its first line.
pub record HasPassed (text passed : List ℕ) (p : Paragraph) (new : State)
    (left : Option (List ℕ)) : Type 0 where
  pub more : List Paragraph
  pub next : paragraphs_within text ≡ paragraphs_of passed ++ p ∷ more
  pub answer : next_answer text (passed_count passed) ≡ seen_from p.first (judged p.first p.lines)
  pub some : p.lines ≢ []
  pub short : IsShort p
  pub front : List ℕ
  pub fresh : List ℕ
  pub ending : List Line
  pub closed : IsClosed front
  pub before : paragraphs_of front ≡ paragraphs_of passed
  pub lines : lines_of fresh ≡ p.lines ++ ending
  pub blank : AreBlank ending
  pub within : length (front ++ fresh) ≤ file_limit
  pub again : Fits text (front ++ fresh) new left
  pub passes : paragraphs_of (front ++ fresh) ≡ paragraphs_of passed ++ p ∷ []
  pub ends : new.lines ≤ p.first + length p.lines
  pub near : length new.unread ≤ piece_limit

-- A text without the paragraph after the first `count` ones: it has as many bytes and lines, is
-- too long from the same line on, if it is, and has the other paragraphs, at their lines.
pub record IsWithout (text : List ℕ) (count : ℕ) (p : Paragraph) (other : List ℕ) : Type 0 where
  pub before : List Paragraph
  pub more : List Paragraph
  pub counted : length before ≡ count
  pub was : paragraphs_within text ≡ before ++ p ∷ more
  pub is : paragraphs_within other ≡ before ++ more
  pub beyond : line_beyond 1 file_limit other ≡ line_beyond 1 file_limit text
  pub lines : length (lines_of other) ≡ length (lines_of text)
  pub bytes : length other ≡ length text

-- the answer on a text is this error, where it is a refusal
abbrev pub AnswersFault : List ℕ → CursorState → Fault → Type 0
AnswersFault text before fault =
    IsReadersFault fault
    (λ refusal. next_answer text (passed_count (passed_of text before)) ≡ Err refusal)

-- What is answered of the paragraph that begins the unread bytes: once it is passed over it has
-- passed; or why there is none.
abbrev pub IsExtentAhead : List ℕ → CursorState → Result Extent Fault → CursorState
    → Option (List ℕ) → Type 0
IsExtentAhead text before (Ok e) mid left =
    (after : CursorState) → PassesOn mid e.skip e.bytes e.lines after
    → HasPassed text (passed_of text before) (record {
      first = before.lines + 1;
      lines = pieces_of (take e.end mid.unread);
    }) (state_from after 0 false None None) left
IsExtentAhead text before (Err fault) mid left = AnswersFault text before fault

abbrev comment : Paragraph
comment = record { first = 3; lines = codes "#" ∷ [] }

errors_to_go_on_after : (is_resumable (Some (Refused (record { code = Comment; line = 3 })))
    (Some comment) ≡ true)
    × (is_resumable (Some (Refused (record { code = ParagraphTooLong; line = 3 }))) None ≡ false)
    × (is_resumable (Some Memory) (Some comment) ≡ false)
    × (is_resumable (Some Read) (Some comment) ≡ false)
    × (is_resumable (Some Write) (Some comment) ≡ false)
    × (is_resumable None (Some comment) ≡ false)
errors_to_go_on_after = (refl, refl, refl, refl, refl, refl)

-- the second paragraph of three is blank in the other text
second_left_out : IsWithout (codes "a:1\n\n#\n\nb") 1 comment (codes "a:1\n\n \n\nb")
unfolding paragraph_limit file_limit
second_left_out =
    record {
      before = record { first = 1; lines = codes "a:1" ∷ [] } ∷ [];
      more = record { first = 5; lines = codes "b" ∷ [] } ∷ [];
      counted = refl;
      was = refl;
      is = refl;
      beyond = refl;
      lines = refl;
      bytes = refl;
    }

-- another text with the same bytes and paragraphs, but a line more
a_line_more : IsWithout (codes "a\n\nbb") 1 (record { first = 3; lines = codes "bb" ∷ [] })
    (codes "a\n\n\n ") → ◌≡◌ {A = ℕ} 4 3
a_line_more is = is.lines
