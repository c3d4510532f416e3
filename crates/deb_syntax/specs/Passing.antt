-- What a call says that passes the next paragraph without judging its lines, and what judging them
-- makes of it. Debian Policy 5.1; the limits are this project's own.
use Rattle.std.specs.Prelude.{◌≡◌, ◌≤◌, ◌+◌, ◌^◌, ℕ, Bool, true, false, List, [], ◌∷◌, length, slice_range, Option, Some, None, Result, Ok, Err, IfOk, IfErr, IfSome, IsTrue, codes, refl}
use Rattle.std.specs.Str.{is_utf8, chars}
use lib.Utf8.{encode}
use Rattle.std.proofs.Common.{arith}
use Rattle.deb_base.specs.Bodies.{paragraph_limit, file_limit}
use Rattle.deb_base.specs.Devices.{read_failures_after}
use Rattle.deb_base.specs.Faults.{IsReadersFault}
use Rattle.deb_base.specs.Reading.{TakesNoMore}
use Rattle.deb_base.specs.declared.code.Code.TheVariants.{NoColon}
use Rattle.deb_base.specs.declared.fault.Fault.{Fault}
use Rattle.deb_base.specs.declared.fault.Fault.TheVariants.{Refused, Memory, Read}
use Rattle.deb_syntax.specs.Answers.{Seen, next_answer}
use Rattle.deb_syntax.specs.Extents.{AreNotBlank}
use Rattle.deb_syntax.specs.FieldSpans.{IsFaultOf}
use Rattle.deb_syntax.specs.Judged.{IsRefusalOfLength}
use Rattle.deb_syntax.specs.Judging.{judged}
use Rattle.deb_syntax.specs.LineEnds.{piece_ends}
use Rattle.deb_syntax.specs.Lines.{Paragraph, total_length}
use Rattle.deb_syntax.specs.Reading.{Fits, GivesNone, Moment, State, passed_count, tells_end}
use Rattle.deb_syntax.specs.Resuming.{HasPassed}
use Rattle.deb_syntax.specs.declared.paragraphs.CurrentParagraph.{CurrentParagraph}

-- What an answer that a paragraph has passed, or that there is none, says of a text that fits,
-- where `passed` has passed before.
abbrev pub AnswersPass : (text passed : List ℕ) → Result (Option Paragraph) Fault → State
    → Option (List ℕ) → Type 0
AnswersPass text passed (Ok None) new left = GivesNone text passed new left
AnswersPass text passed (Ok (Some p)) new left = HasPassed text passed p new left
AnswersPass text passed (Err fault) new left =
    IsReadersFault fault (λ refusal. next_answer text (passed_count passed) ≡ Err refusal)

-- A call of a reader without error that passes the next paragraph: what it answers of each text
-- that fits, how much of it was taken by then, how often its source failed, and which errors there
-- are. No paragraph is current afterwards.
pub record Passes (before : Moment) (answer : Result (Option Paragraph) Fault)
    (after : Moment) : Type 0 where
  pub answers : (text passed : List ℕ) → Fits text passed before.state before.source.bytes
      → AnswersPass text passed answer after.state after.source.bytes
  pub taken : (text passed : List ℕ) → Fits text passed before.state before.source.bytes
      → TakesNoMore text file_limit after.source.bytes
  pub counted : after.source.failures ≡ read_failures_after before.source.failures answer
  pub fault : IfErr answer (λ fault. IsReadersFault fault IsRefusalOfLength)
  pub current : after.state.current ≡ None
  pub finished : after.state.finished ≡ tells_end answer
  pub ended : IsTrue before.state.finished → answer ≡ Ok None
  pub no_overlong : IfOk answer (λ last. IfSome last (λ _. after.state.overlong_len ≡ 0))

-- what an answer says that says whether there is a paragraph, by the one that has passed
abbrev pub pass_answer : Option Paragraph → Result Bool Fault → Result (Option Paragraph) Fault
pass_answer last (Ok true) = Ok last
pass_answer last (Ok false) = Ok None
pass_answer last (Err fault) = Err fault

-- The lines can be judged: none of them is blank, they aren't too long, and their numbers begin
-- with 1 at least and are small.
pub record CanBeJudged (p : Paragraph) : Type 0 where
  pub not_blank : AreNotBlank p.lines
  pub short : total_length p.lines ≤ paragraph_limit
  pub first : 1 ≤ p.first
  pub numbered : p.first + length p.lines ≤ 2 ^ 32

-- Where the lines of a paragraph that has passed end in its bytes, if one has.
abbrev pub EndsLines : List ℕ → List ℕ → Option CurrentParagraph → Type 0
EndsLines ends buffer None = Unit {0}
EndsLines ends buffer (Some at) = ends ≡ piece_ends (slice_range buffer at.from at.to)

-- What judging a paragraph that has passed makes of a reader: it is the current one, or one of its
-- lines is refused, or memory ran out. Where none has passed nothing is done.
abbrev pub JudgesPassed : State → Option Paragraph → Result Bool Fault → State → Type 0
JudgesPassed before None result after = (result ≡ Ok false) × (after ≡ before)
JudgesPassed before (Some p) (Ok found) after =
    (seen : Seen) × (found ≡ true) × (seen.first ≡ p.first)
    × (judged p.first p.lines ≡ Ok seen.fields)
    × (after ≡ record before { current = Some seen })
JudgesPassed before (Some p) (Err fault) after =
    IsFaultOf (judged p.first p.lines) fault × (after ≡ before)

abbrev hello : Paragraph
hello = record { first = 3; lines = codes "A:1" ∷ codes " b" ∷ [] }

answers_of_passing : (pass_answer (Some hello) (Ok true) ≡ Ok (Some hello))
    × (pass_answer (Some hello) (Ok false) ≡ Ok None)
    × (pass_answer None (Err Read) ≡ Err Read)
answers_of_passing = (refl, refl, refl)

lines_to_judge : CanBeJudged hello
unfolding paragraph_limit
lines_to_judge = record {
  not_blank = (refl, (refl, tt));
  short = omega arith;
  first = omega arith;
  numbered = omega arith;
}

ends_of_lines : EndsLines [] (codes "a") None
    × EndsLines (1 ∷ 3 ∷ []) (codes "\nb\nc\n") (Some (record { from = 1; to = 4; first_line = 2 }))
ends_of_lines = (tt, refl)

-- a fault of an answer is that of the text; none has passed at the end
answers_say : (text passed : List ℕ) (new : State) (left : Option (List ℕ))
    → (AnswersPass text passed (Err Memory) new left)
    × (AnswersPass text passed (Ok None) new left → IsTrue new.finished)
    × (AnswersPass text passed (Ok (Some hello)) new left → length new.unread ≤ 65536)
answers_say text passed new left = (tt, λ none. none.finished, λ has. has.near)

-- a line without colon
judged_passed : (before : State)
    → JudgesPassed before None (Ok false) before
    × JudgesPassed before (Some hello)
    (Ok true) (record before {
      current = Some (record {
        first = 3;
        fields = record { name = codes "A"; line = 3; body = codes "1\n b" } ∷ [];
      });
    })
    × JudgesPassed before (Some (record { first = 7; lines = codes "A" ∷ [] }))
    (Err (Refused (record { code = NoColon; line = 7 }))) before
unfolding paragraph_limit is_utf8 chars encode
judged_passed before = ((refl, refl), (_, refl, refl, refl, refl), (refl, refl))
