-- What a `Paragraphs` and its answers show.
use Rattle.std.specs.Prelude.{◌≡◌, ◌<◌, ◌⊎◌, ℕ, Bool, true, false, Option, Some, None, Result, Ok, Err, IsTrue, IsSome, refl, codes}
use Rattle.std.specs.Option.{option_map}
use Rattle.deb_base.specs.declared.fault.Fault.{Fault}
use Rattle.deb_syntax.specs.declared.paragraphs.Paragraphs.{Paragraphs}
use Rattle.deb_syntax.specs.declared.raw.Raw.{Raw}
use Rattle.deb_syntax.specs.Answers.{Seen}
use Rattle.deb_syntax.specs.declared.first.FirstLine.{FirstLine}
use Rattle.deb_syntax.specs.declared.first.FirstLine.TheVariants.{NoMore, Buffered, TooLong}
use Rattle.deb_syntax.specs.Ahead.{KeepsLine}
use Rattle.deb_syntax.specs.Cursors.{CursorState, cursor_state, buffer_of, start_of}
use Rattle.deb_syntax.specs.Judged.{lines_standing}
use Rattle.deb_syntax.specs.Lines.{Paragraph}
use Rattle.deb_syntax.specs.Raw.{first_line_of, fields_of, two_fields}
use Rattle.deb_syntax.specs.Reading.{State, state_from}
use Rattle.deb_syntax.specs.CurrentParagraphs.{current_of}
use Rattle.deb_base.specs.declared.fault.Fault.TheVariants.{Memory, Read}
use Rattle.deb_syntax.specs.Literals.{a_reader, found, judged_lines}

abbrev pub seen_of : Raw → Seen
seen_of raw = record { first = first_line_of raw; fields = fields_of raw }

abbrev pub answer_of : Result (Option Raw) Fault → Result (Option Seen) Fault
answer_of (Ok raw) = Ok (option_map seen_of raw)
answer_of (Err fault) = Err fault

abbrev pub state_of : Paragraphs → State
state_of p =
    state_from (cursor_state p.cursor) p.overlong_len p.finished
    (option_map (current_of (buffer_of p.cursor) p.spans.items) p.current) p.fault

-- the paragraph whose lines were judged last
abbrev pub judged_last : Paragraphs → Option Paragraph
judged_last p = option_map (lines_standing (buffer_of p.cursor)) p.judged

-- what an answer shows that says whether there is a paragraph, by the paragraph that was found last
abbrev pub advance_answer : State → Result Bool Fault → Result (Option Seen) Fault
advance_answer new (Ok true) = Ok new.current
advance_answer new (Ok false) = Ok None
advance_answer new (Err fault) = Err fault

-- the same of an answer that is no error only where there is one
abbrev pub end_answer : State → Result (Unit {0}) Fault → Result (Option Seen) Fault
end_answer new (Ok done) = Ok new.current
end_answer new (Err fault) = Err fault

-- what a cursor and the discarded bytes show of the first line ahead that isn't blank, for every
-- source
abbrev pub ShowsFirst : Result FirstLine Fault → ℕ → Bool → CursorState → Type 0
ShowsFirst (Ok NoMore) overlong_len finished cursor = finished ≡ true
ShowsFirst (Ok (Buffered end next)) overlong_len finished cursor =
    (overlong_len ≡ 0) × (finished ≡ false) × KeepsLine end next cursor
ShowsFirst (Ok (TooLong len)) overlong_len finished cursor = (0 < overlong_len)
    × (finished ≡ false)
ShowsFirst (Err fault) overlong_len finished cursor = finished ≡ false

-- a read has returned the file's end, or it was answered that no paragraph follows, or there is an
-- error: nothing is read
abbrev pub IsQuiet : State → Type 0
IsQuiet state = IsTrue state.ended ⊎ (IsTrue state.finished ⊎ IsSome state.fault)

answers_shown : (answer_of (Ok (Some two_fields))
    ≡ Ok (Some (record { first = 4; fields = found.fields })))
    × (answer_of (Ok None) ≡ Ok None) × (answer_of (Err Read) ≡ Err Read)
unfolding two_fields
answers_shown = (refl, refl, refl)

reader_shown : (state_of a_reader ≡ record {
  unread = codes "C";
  held = 14;
  bytes = 15;
  lines = 7;
  overlong_len = 0;
  ended = true;
  finished = false;
  current = Some found;
  fault = None;
}) × (judged_last a_reader ≡ Some judged_lines) × (start_of a_reader.cursor ≡ 13)
unfolding a_reader
reader_shown = (refl, refl, refl)

calls_shown : (advance_answer (state_of a_reader) (Ok true) ≡ Ok (Some found))
    × (advance_answer (state_of a_reader) (Ok false) ≡ Ok None)
    × (advance_answer (state_of a_reader) (Err Read) ≡ Err Read)
    × (end_answer (state_of a_reader) (Ok tt) ≡ Ok (Some found))
    × (end_answer (state_of a_reader) (Err Memory) ≡ Err Memory)
unfolding a_reader
calls_shown = (refl, refl, refl, refl, refl)
