-- What a reader of paragraphs is to its callers, which texts fit it, and what its calls say of
-- them. Debian Policy 5.1; what is kept and how far is read is this project's own.
use Rattle.std.specs.Prelude.{◌≡◌, ℕ, ◌+◌, ◌≤◌, ◌⊎◌, Bool, true, false, List, [], ◌∷◌, ◌++◌, length, Option, Some, None, IfSome, IfNone, Result, Ok, Err, IfOk, IfErr, MatchResult, IsTrue, codes, refl}
use Rattle.std.proofs.Common.{inl, inr, subst}
use Rattle.std.proofs.lemmas.Bool.{false≢true}
use Rattle.deb_base.specs.Bodies.{HasNoNewline, paragraph_limit, file_limit}
use Rattle.deb_base.specs.Codes.{number_of}
use Rattle.deb_base.specs.Devices.{Shown, read_failures_after}
use Rattle.deb_base.specs.Faults.{IsReadersFault}
use Rattle.deb_base.specs.declared.fault.Fault.{Fault}
use Rattle.deb_base.specs.declared.refusal.Refusal.{Refusal}
use Rattle.deb_base.specs.Reading.{TakesNoMore, piece_limit}
use Rattle.deb_syntax.specs.declared.first.FirstLine.{FirstLine}
use Rattle.deb_syntax.specs.declared.first.FirstLine.TheVariants.{NoMore, Buffered, TooLong}
use Rattle.deb_syntax.specs.NextLines.{IsNear}
use Rattle.deb_syntax.specs.Answers.{Seen, paragraphs_within, next_answer, next_begin}
use Rattle.deb_syntax.specs.Cursors.{CursorState}
use Rattle.deb_syntax.specs.Fields.{IsShort}
use Rattle.deb_syntax.specs.Judging.{judged}
use Rattle.deb_syntax.specs.Lines.{lines_of, IsClosed, Paragraph, paragraphs_of}
use Rattle.deb_base.specs.declared.fault.Fault.TheVariants.{Read}

-- A reader of paragraphs: the bytes of its buffer that haven't passed, the buffer's length, how
-- many bytes and lines have passed, how many bytes of the first line that hasn't passed aren't
-- kept, whether a read has returned the file's end, whether it was answered that no paragraph
-- follows, the paragraph that was found last, and the error.
pub record State : Type 0 where
  pub unread : List ℕ
  pub held : ℕ
  pub bytes : ℕ
  pub lines : ℕ
  pub overlong_len : ℕ
  pub ended : Bool
  pub finished : Bool
  pub current : Option Seen
  pub fault : Option Fault

-- the same by what has come of the file
abbrev pub state_from : CursorState → ℕ → Bool → Option Seen → Option Fault → State
state_from cursor overlong_len finished current fault = record {
  unread = cursor.unread;
  held = cursor.held;
  bytes = cursor.bytes;
  lines = cursor.lines;
  overlong_len = overlong_len;
  ended = cursor.ended;
  finished = finished;
  current = current;
  fault = fault;
}

-- The text fits: it is what has passed, then the bytes that aren't kept, whichever they are, then
-- the unread ones, then what the source has left. What has passed has the bytes and lines that are
-- counted; it is closed, or nothing follows it.
pub record Fits (text passed : List ℕ) (state : State) (left : Option (List ℕ)) : Type 0 where
  pub overlong : List ℕ
  pub rest : List ℕ
  pub told : left ≡ Some rest
  pub whole : text ≡ passed ++ (overlong ++ (state.unread ++ rest))
  pub bytes : state.bytes ≡ length passed
  pub lines : state.lines ≡ length (lines_of passed)
  pub overlong_bytes : length overlong ≡ state.overlong_len
  pub overlong_line : HasNoNewline overlong
  pub closed : IsClosed passed ⊎ (overlong ++ (state.unread ++ rest) ≡ [])
  pub ended : IsTrue state.ended → rest ≡ []
  pub finished : IsTrue state.finished → overlong ++ (state.unread ++ rest) ≡ []

-- how many paragraphs have passed
abbrev pub passed_count : List ℕ → ℕ
passed_count passed = length (paragraphs_of passed)

-- The answer is the next paragraph of the text after those that have passed, which then has passed
-- too: it, and no more than one blank line after it. At most one piece was taken beyond that.
pub record GivesNext (text passed : List ℕ) (seen : Seen) (new : State)
    (left : Option (List ℕ)) : Type 0 where
  pub answer : next_answer text (passed_count passed) ≡ Ok (Some seen)
  pub paragraph : Paragraph
  pub more : List Paragraph
  pub next : paragraphs_within text ≡ paragraphs_of passed ++ paragraph ∷ more
  pub first : seen.first ≡ paragraph.first
  pub fields : judged paragraph.first paragraph.lines ≡ Ok seen.fields
  pub short : IsShort paragraph
  pub passed_now : List ℕ
  pub again : Fits text passed_now new left
  pub passes : paragraphs_of passed_now ≡ paragraphs_of passed ++ paragraph ∷ []
  pub ends : new.lines ≤ paragraph.first + length paragraph.lines
  pub near : length new.unread ≤ piece_limit

-- The text has no further paragraph, and all of it has passed.
pub record GivesNone (text passed : List ℕ) (new : State) (left : Option (List ℕ)) : Type 0 where
  pub answer : next_answer text (passed_count passed) ≡ Ok None
  pub begin : next_begin text (passed_count passed) ≡ Ok None
  pub again : Fits text text new left
  pub passes : paragraphs_of text ≡ paragraphs_of passed
  pub finished : IsTrue new.finished

-- The next paragraph begins at this line. Only blank lines have passed, and at most one piece was
-- taken beyond that line.
pub record GivesLine (text passed : List ℕ) (line : ℕ) (new : State)
    (left : Option (List ℕ)) : Type 0 where
  pub begin : next_begin text (passed_count passed) ≡ Ok (Some line)
  pub passed_now : List ℕ
  pub again : Fits text passed_now new left
  pub passes : paragraphs_of passed_now ≡ paragraphs_of passed
  pub at : line ≡ new.lines + 1
  pub near : IsNear new.unread

-- Only blank lines have passed, and a paragraph begins after them.
pub record BeginsHere (text passed : List ℕ) (new : State) (left : Option (List ℕ)) : Type 0 where
  pub passed_now : List ℕ
  pub again : Fits text passed_now new left
  pub passes : paragraphs_of passed_now ≡ paragraphs_of passed
  pub begin : next_begin text (passed_count passed) ≡ Ok (Some (new.lines + 1))

-- What an answer that there is a paragraph, or none, says of a text that fits, where `passed` has
-- passed.
abbrev pub Answers : (text passed : List ℕ) → Result (Option Seen) Fault → State → Option (List ℕ)
    → Type 0
Answers text passed (Ok None) new left = GivesNone text passed new left
Answers text passed (Ok (Some seen)) new left = GivesNext text passed seen new left
Answers text passed (Err fault) new left =
    IsReadersFault fault (λ refusal. next_answer text (passed_count passed) ≡ Err refusal)

-- What is shown of the first line ahead that isn't blank: it is there, or none is, or why the file
-- is refused.
abbrev pub FindsFirst : (text passed : List ℕ) → Result FirstLine Fault → State → Option (List ℕ)
    → Type 0
FindsFirst text passed (Ok NoMore) new left = GivesNone text passed new left
FindsFirst text passed (Ok (Buffered end next)) new left = BeginsHere text passed new left
FindsFirst text passed (Ok (TooLong len)) new left = BeginsHere text passed new left
FindsFirst text passed (Err fault) new left =
    IsReadersFault fault (λ refusal.
    (next_answer text (passed_count passed) ≡ Err refusal)
    × (next_begin text (passed_count passed) ≡ Err refusal))

-- What an answer that a paragraph begins, or none, says of one.
abbrev pub AnswersBegin : (text passed : List ℕ) → Result (Option ℕ) Fault → State → Option (List ℕ)
    → Type 0
AnswersBegin text passed (Ok None) new left = GivesNone text passed new left
AnswersBegin text passed (Ok (Some line)) new left = GivesLine text passed line new left
AnswersBegin text passed (Err fault) new left =
    IsReadersFault fault (λ refusal. next_begin text (passed_count passed) ≡ Err refusal)

-- a refusal of a file that is read has a code from 1 to 9 and a line
pub record IsRefusalOfText (refusal : Refusal) : Type 0 where
  pub least : 1 ≤ number_of refusal.code
  pub most : number_of refusal.code ≤ 9
  pub line : 1 ≤ refusal.line

-- a reader of paragraphs, and what its source shows
pub record Moment : Type 0 where
  pub state : State
  pub source : Shown

-- the same by what the source has left, and how often it failed
abbrev pub moment_of : State → Option (List ℕ) → ℕ → Moment
moment_of state left failures =
    record { state = state; source = record { bytes = left; failures = failures } }

-- whether the answer is that nothing follows
abbrev pub tells_end : {A : Type 0} → Result (Option A) Fault → Bool
tells_end (Ok None) = true
tells_end (Ok (Some answer)) = false
tells_end (Err fault) = false

-- A call of a reader without error: what it answers of each text that fits, and how much of it was
-- taken by then, how often its source failed, and which errors there are. Only the answer that
-- nothing follows ends it, and is then given again and again. After a paragraph no bytes are
-- discarded.
pub record Advances (before : Moment) (answer : Result (Option Seen) Fault)
    (after : Moment) : Type 0 where
  pub answers : (text passed : List ℕ) → Fits text passed before.state before.source.bytes
      → Answers text passed answer after.state after.source.bytes
  pub taken : (text passed : List ℕ) → Fits text passed before.state before.source.bytes
      → TakesNoMore text file_limit after.source.bytes
  pub counted : after.source.failures ≡ read_failures_after before.source.failures answer
  pub fault : IfErr answer (λ fault. IsReadersFault fault IsRefusalOfText)
  pub current : MatchResult answer (λ seen. after.state.current ≡ seen)
      (λ fault. after.state.current ≡ None)
  pub finished : after.state.finished ≡ tells_end answer
  pub ended : IsTrue before.state.finished → answer ≡ Ok None
  pub no_overlong : IfOk answer (λ seen. IfSome seen (λ _. after.state.overlong_len ≡ 0))

-- The same of a call that returns where the next paragraph begins; afterwards none is current.
pub record Begins (before : Moment) (answer : Result (Option ℕ) Fault)
    (after : Moment) : Type 0 where
  pub answers : (text passed : List ℕ) → Fits text passed before.state before.source.bytes
      → AnswersBegin text passed answer after.state after.source.bytes
  pub taken : (text passed : List ℕ) → Fits text passed before.state before.source.bytes
      → TakesNoMore text file_limit after.source.bytes
  pub counted : after.source.failures ≡ read_failures_after before.source.failures answer
  pub fault : IfErr answer (λ fault. IsReadersFault fault IsRefusalOfText)
  pub current : after.state.current ≡ None
  pub finished : after.state.finished ≡ tells_end answer
  pub ended : IsTrue before.state.finished → answer ≡ Ok None
  pub line : IfOk answer (λ line. IfSome line (λ n. 1 ≤ n))

-- A call of a reader: without an error it goes on, and keeps the error that it then answers; with
-- one it answers that error, and neither reads nor changes.
pub record KeepsErrors {A : Type 0} (Goes : Moment → Result A Fault → Moment → Type 0)
    (before : Moment) (answer : Result A Fault) (after : Moment) : Type 0 where
  pub goes : IfNone before.state.fault (Goes before answer after)
  pub keeps : IfNone before.state.fault (MatchResult answer (λ _. after.state.fault ≡ None)
      (λ fault. after.state.fault ≡ Some fault))
  pub repeats : IfSome before.state.fault (λ fault. (answer ≡ Err fault) × (after ≡ before))

-- for the worked cases: a reader without error, by its unread bytes, how many bytes and lines have
-- passed, and how many bytes are discarded
abbrev reader_of : List ℕ → ℕ → ℕ → ℕ → State
reader_of unread bytes lines overlong_len = record {
  unread = unread;
  held = 65536;
  bytes = bytes;
  lines = lines;
  overlong_len = overlong_len;
  ended = false;
  finished = false;
  current = None;
  fault = None;
}

-- nothing has passed, and the source has the text
fits_new : Fits (codes "a\n") [] (reader_of [] 0 0 0) (Some (codes "a\n"))
fits_new =
    record {
      overlong = [];
      rest = codes "a\n";
      told = refl;
      whole = refl;
      bytes = refl;
      lines = refl;
      overlong_bytes = refl;
      overlong_line = tt;
      closed = inl (refl, refl);
      ended = λ e. absurd (false≢true e);
      finished = λ e. absurd (false≢true e);
    }

-- a paragraph has passed with the blank line after it, and the last byte is the source's
fits_behind : Fits (codes "a\n \nb\n") (codes "a\n \n") (reader_of (codes "b") 4 2 0)
    (Some (codes "\n"))
unfolding paragraph_limit
fits_behind =
    record {
      overlong = [];
      rest = codes "\n";
      told = refl;
      whole = refl;
      bytes = refl;
      lines = refl;
      overlong_bytes = refl;
      overlong_line = tt;
      closed = inl (refl, refl);
      ended = λ e. absurd (false≢true e);
      finished = λ e. absurd (false≢true e);
    }

-- three bytes of a line aren't kept: they may be any but newlines
fits_overlong : Fits (codes "\nxyz\n") (codes "\n") (reader_of (codes "\n") 1 1 3) (Some [])
unfolding paragraph_limit
fits_overlong =
    record {
      overlong = codes "xyz";
      rest = [];
      told = refl;
      whole = refl;
      bytes = refl;
      lines = refl;
      overlong_bytes = refl;
      overlong_line = (refl, (refl, (refl, tt)));
      closed = inl (refl, refl);
      ended = λ e. refl;
      finished = λ e. absurd (false≢true e);
    }

-- all has passed, though no blank line ends it
fits_all : Fits (codes "a") (codes "a") (record (reader_of [] 1 1 0) { finished = true }) (Some [])
fits_all =
    record {
      overlong = [];
      rest = [];
      told = refl;
      whole = refl;
      bytes = refl;
      lines = refl;
      overlong_bytes = refl;
      overlong_line = tt;
      closed = inr refl;
      ended = λ e. refl;
      finished = λ e. refl;
    }

moment_by_parts : moment_of (reader_of (codes "b") 4 2 0) (Some (codes "\n")) 3 ≡ record {
  state = reader_of (codes "b") 4 2 0;
  source = record { bytes = Some (codes "\n"); failures = 3 };
}
moment_by_parts = refl

paragraphs_passed : (passed_count (codes "a\n\nb\nc\n") ≡ 2) × (passed_count (codes " \n") ≡ 0)
unfolding paragraph_limit
paragraphs_passed = (refl, refl)

answers_of_end : (tells_end {A = ℕ} (Ok None) ≡ true)
    × (tells_end {A = ℕ} (Ok (Some 1)) ≡ false) × (tells_end {A = ℕ} (Err Read) ≡ false)
answers_of_end = (refl, refl, refl)

-- an error is answered again, and nothing changes
error_again : (A : Type 0) (Goes : Moment → Result A Fault → Moment → Type 0) (fault : Fault)
    (before after : Moment) (answer : Result A Fault) → before.state.fault ≡ Some fault
    → KeepsErrors Goes before answer after → (answer ≡ Err fault) × (after ≡ before)
error_again A Goes fault before after answer failed call =
    subst (λ kept. IfSome kept (λ fault. (answer ≡ Err fault) × (after ≡ before))) failed
    call.repeats

-- the first error is kept, and no other answer leaves one
errors_kept : (A : Type 0) (Goes : Moment → Result A Fault → Moment → Type 0) (fault : Fault)
    (a : A) (after : Moment)
    → (KeepsErrors Goes (moment_of (reader_of [] 0 0 0) None 0) (Err fault) after
    → after.state.fault ≡ Some fault)
    × (KeepsErrors Goes (moment_of (reader_of [] 0 0 0) None 0) (Ok a) after
    → after.state.fault ≡ None)
errors_kept A Goes fault a after = (λ call. call.keeps, λ call. call.keeps)

-- refusals of a file's text have the codes up to that of a file that is too long
codes_of_text : (refusal : Refusal) → IsRefusalOfText refusal
    → (1 ≤ number_of refusal.code) × (number_of refusal.code ≤ 9) × (1 ≤ refusal.line)
codes_of_text refusal is = (is.least, is.most, is.line)

-- after a paragraph at most one piece is unread, and after the end nothing but the end is answered
near_paragraphs : (text passed : List ℕ) (seen : Seen) (new : State) (left : Option (List ℕ))
    → GivesNext text passed seen new left → length new.unread ≤ 65536
near_paragraphs text passed seen new left gives = gives.near

end_again : (before after : Moment) (answer : Result (Option Seen) Fault)
    (line : Result (Option ℕ) Fault) → IsTrue before.state.finished
    → (Advances before answer after → answer ≡ Ok None)
    × (Begins before line after → line ≡ Ok None)
end_again before after answer line finished = (
  λ call. call.ended finished,
  λ call. call.ended finished,
)
