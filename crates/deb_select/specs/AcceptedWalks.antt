-- What a walk over the paragraphs of a file has done so far, which goes on after those that are
-- refused: this project's own.
use Rattle.std.specs.Prelude.{◌≡◌, ℕ, ◌&&◌, Bool, true, false, List, [], ◌++◌, length, Option}
use Rattle.std.specs.Prelude.{◌∷◌, None, Some, Result, Ok, Err, refl}
use Rattle.std.specs.Io.KnownBytes.{Appends}
use Rattle.deb_base.specs.Devices.{AppendsFront}
use Rattle.deb_base.specs.declared.fault.Fault.{Fault}
use Rattle.deb_base.specs.declared.fault.Fault.TheVariants.{Refused, Memory, Read, Write}
use Rattle.deb_control.specs.AllRefusals.{file_lines, lines_of_refusals, passed_of, refusals_of}
use Rattle.deb_control.specs.Checking.{FitsChecked}
use Rattle.deb_control.specs.CheckedStates.{checked_state, doc_read}
use Rattle.deb_control.specs.Documents.{rules_of}
use Rattle.deb_control.specs.Refusals.{Answered, passed_in}
use Rattle.deb_control.specs.Streams.{CheckedItem, CheckedStream, ended_by, refusals_in}
use Rattle.deb_control.specs.Streams.{stream_given, stream_of}
use Rattle.deb_control.specs.WrittenRefusals.{WritesFirst}
use Rattle.deb_select.specs.Accepting.{WritesAccepted, WritesFirstAccepted, WritesPartAccepted}
use Rattle.deb_select.specs.Accepting.{WritesPassed, bodies_in, passed_items}
use Rattle.deb_select.specs.Selecting.{Request, count_after}
use Rattle.deb_select.specs.declared.accepting.Walk.{Walk}
use Rattle.deb_select.specs.declared.writing.Outcome.{Outcome}
use Rattle.deb_select.specs.declared.writing.Put.{Put}

-- an outcome after one more paragraph that passes
abbrev pub outcome_after : Outcome → Put → Outcome
outcome_after done put = record {
  count = count_after done.count put.selected;
  begun = put.begun;
  full = done.full && put.full;
}

-- what the two sinks hold
pub record Sinks : Type 0 where
  pub writer : Option (List ℕ)
  pub reports : Option (List ℕ)

abbrev pub sinks : Option (List ℕ) → Option (List ℕ) → Sinks
sinks writer reports = record { writer = writer; reports = reports }

-- a stream after items
abbrev pub after_items : List CheckedItem → CheckedStream → CheckedStream
after_items items more = record { items = items ++ more.items; end = more.end }

-- The file fits the walk's reader of checked paragraphs.
pub record FitsWalk (text : List ℕ) (walk : Walk) (left : Option (List ℕ)) : Type 0 where
  pub answered : List Answered
  pub fits : FitsChecked (doc_read walk.checked) text answered (checked_state walk.checked) left

-- These items of a file were walked over: those that pass and are selected were written, and the
-- lines of the refusals of the others.
pub record Walked (asked : Request) (text : List ℕ) (walk : Walk) (left : Option (List ℕ))
    (old now : Sinks) : Type 0 where
  pub reads : doc_read walk.checked ≡ asked.kind
  pub answered : List Answered
  pub fits : FitsChecked asked.kind text answered (checked_state walk.checked) left
  pub items : List CheckedItem
  pub stream : stream_of (rules_of asked.kind) text
      ≡ after_items items (stream_given (rules_of asked.kind) text answered)
  pub bodies : bodies_in (passed_items items) ≡ passed_in answered
  pub passed : walk.summary.passed ≡ length (passed_items items)
  pub refused : walk.summary.refused ≡ length (refusals_in items None)
  pub written : WritesPassed asked (passed_items items) walk.outcome old.writer now.writer
  pub reported : Appends old.reports now.reports (lines_of_refusals (refusals_in items None))

-- All of the file was.
pub record WalkedAll (asked : Request) (text : List ℕ) (walk : Walk) (old now : Sinks) : Type 0
  where
    pub written : WritesAccepted asked text walk.outcome old.writer now.writer
    pub passed : walk.summary.passed ≡ passed_of asked.kind text
    pub refused : walk.summary.refused ≡ length (refusals_of asked.kind text)
    pub reported : Appends old.reports now.reports
        (lines_of_refusals (refusals_of asked.kind text))

-- The first ones were.
pub record WalkedFirst (asked : Request) (text : List ℕ) (old now : Sinks) : Type 0 where
  pub written : WritesFirstAccepted asked text old.writer now.writer
  pub reported : WritesFirst asked.kind text old.reports now.reports

-- Prefixes of what is written of them were.
pub record WalkedPart (asked : Request) (text : List ℕ) (old now : Sinks) : Type 0 where
  pub written : WritesPartAccepted asked text old.writer now.writer
  pub reported : AppendsFront old.reports now.reports (file_lines asked.kind text)

-- What an answer says after one more run of lines: whether another one may follow, or which error
-- came.
abbrev pub StepsOn : Request → List ℕ → Result Bool Fault → Walk → Option (List ℕ) → Sinks → Sinks
    → Type 0
StepsOn asked text (Ok true) walk left old now = Walked asked text walk left old now
StepsOn asked text (Ok false) walk left old now = WalkedAll asked text walk old now
StepsOn asked text (Err (Refused refusal)) walk left old now = ⊥
StepsOn asked text (Err Memory) walk left old now = WalkedFirst asked text old now
StepsOn asked text (Err Read) walk left old now = WalkedFirst asked text old now
StepsOn asked text (Err Write) walk left old now = WalkedPart asked text old now

worked-outcome : (outcome_after (record { count = 3; begun = false; full = true })
    (record { selected = true; begun = true; full = true })
    ≡ record { count = 4; begun = true; full = true })
    × (outcome_after (record { count = 3; begun = true; full = true })
    (record { selected = true; begun = true; full = false })
    ≡ record { count = 4; begun = true; full = false })
    × (outcome_after (record { count = 3; begun = true; full = false })
    (record { selected = false; begun = true; full = true })
    ≡ record { count = 3; begun = true; full = false })
worked-outcome = (refl, refl, refl)

worked-after : after_items [] (ended_by None) ≡ record { items = []; end = None }
worked-after = refl

worked-sinks : sinks (Some (1 ∷ [])) None ≡ record { writer = Some (1 ∷ []); reports = None }
worked-sinks = refl
