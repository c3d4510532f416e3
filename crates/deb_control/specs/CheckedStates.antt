-- What a `Checked` and its parts show.
use Rattle.std.specs.Prelude.{◌≡◌, ℕ, List, Option, Some, None, Result, Ok, Err, refl, [], codes}
use Rattle.std.specs.Option.{option_map}
use Rattle.deb_base.specs.declared.fault.Fault.{Fault}
use Rattle.deb_syntax.specs.Answers.{Seen}
use Rattle.deb_syntax.specs.Lines.{Paragraph}
use Rattle.deb_syntax.specs.Paragraphs.{judged_last, state_of, seen_of}
use Rattle.deb_base.specs.declared.doc.Doc.{Doc}
use Rattle.deb_control.specs.Checking.{CheckedMoment, CheckedState, Passing, passing_seen, seen_last}
use Rattle.deb_control.specs.Refused.{seen_refused}
use Rattle.deb_control.specs.declared.checked_text.CheckedText.{CheckedText}
use Rattle.deb_control.specs.declared.checked.Checked.{Checked}
use Rattle.deb_control.specs.declared.checked_view.CheckedView.{CheckedView}
use Rattle.deb_base.specs.Literals.{global, lent, vector}
use Rattle.deb_syntax.specs.Literals.{a_reader, found, judged_lines}
use Rattle.std.specs.Str.{is_utf8, chars}
use lib.Utf8.{encode}
use Rattle.deb_base.specs.Bodies.{paragraph_limit}
use Rattle.deb_base.specs.Kinds.{known_row}
use Rattle.deb_base.specs.declared.code.Code.TheVariants.{MissingField}
use Rattle.deb_base.specs.declared.doc.Doc.TheVariants.{Any, Packages}
use Rattle.deb_base.specs.declared.fault.Fault.TheVariants.{Refused, Read}
use Rattle.deb_control.specs.Resuming.{resumed}
use Rattle.std.proofs.lemmas.Bool.{leb-true}

abbrev pub checked_state : Checked → CheckedState
checked_state c = record {
  reader = state_of c.paragraphs;
  count = c.totals.paragraphs;
  bytes = c.totals.bytes;
  current = seen_last c.fault (state_of c.paragraphs).current;
  fault = c.fault;
}

-- the paragraph that is refused, where its lines aren't
abbrev pub refused_last : CheckedState → Option Seen
refused_last state = seen_refused state.fault state.reader.current

-- the paragraph whose lines were judged last
abbrev pub lines_checked : Checked → Option Paragraph
lines_checked c = judged_last c.paragraphs

-- the kind of document that it reads
abbrev pub doc_read : Checked → Doc
doc_read c = c.doc

abbrev pub checked_moment : Checked → Option (List ℕ) → ℕ → CheckedMoment
checked_moment c left failures = record {
  state = checked_state c;
  source = record { bytes = left; failures = failures };
}

-- what a view of a paragraph that passes shows
abbrev pub passing_judged : CheckedView → Passing
passing_judged judged = passing_seen judged.doc (seen_of judged.raw)

-- and what one with its canonical text does
abbrev pub passing_of : CheckedText → Passing
passing_of accepted = record {
  seen = seen_of accepted.view.raw;
  text = accepted.canonical.now;
}

-- and the kinds of their documents
abbrev pub doc_judged : CheckedView → Doc
doc_judged judged = judged.doc

abbrev pub doc_of : CheckedText → Doc
doc_of accepted = accepted.view.doc

abbrev pub checked_answer : Result (Option CheckedText) Fault → Result (Option Passing) Fault
checked_answer (Ok accepted) = Ok (option_map passing_of accepted)
checked_answer (Err fault) = Err fault

-- a reader that has refused the paragraph that was found last
unfoldable pub a_checked : Checked
unfolding a_reader
a_checked = record {
  paragraphs = a_reader;
  doc = Packages;
  totals = record {
    paragraphs = 1;
    bytes = 14;
    within = leb-true 14 4294967295 refl;
    few = leb-true 1 15 refl;
  };
  fault = Some (Refused (record { code = MissingField; line = 5 }));
  canon = record { order = vector [] refl; text = vector [] refl };
  alloc = global;
  inside = refl;
  sound = refl;
  found = refl;
}

reader_shown : (checked_moment a_checked (Some (codes "D")) 2 ≡ record {
  state =
      record {
        reader = state_of a_reader;
        count = 1;
        bytes = 14;
        current = None;
        fault = Some (Refused (record { code = MissingField; line = 5 }));
      };
  source = record { bytes = Some (codes "D"); failures = 2 };
}) × (doc_read a_checked ≡ Packages)
unfolding a_checked
reader_shown = (refl, refl)

refused_shown : (refused_last (checked_state a_checked) ≡ Some found)
    × (lines_checked a_checked ≡ Some judged_lines)
unfolding a_checked a_reader
refused_shown = (refl, refl)

-- the same after it goes on
abbrev gone_on : CheckedState
gone_on = resumed (checked_state a_checked)

reader_gone_on : (gone_on.fault ≡ None) × (gone_on.current ≡ None) × (gone_on.bytes ≡ 14)
    × (gone_on.reader.fault ≡ None) × (gone_on.reader.current ≡ None)
    × (gone_on.reader.bytes ≡ 15)
unfolding a_checked a_reader
reader_gone_on = (refl, refl, refl, refl, refl, refl)

-- a paragraph without fields, whose canonical text is empty
abbrev a_view : CheckedView
unfolding paragraph_limit is_utf8 chars encode known_row
a_view = record {
  doc = Any;
  raw =
      record {
        text = lent [];
        spans = lent [];
        first_line = 4;
        within = refl;
        fields = refl;
        numbered = refl;
      };
  passes = refl;
}

abbrev a_text : CheckedText
unfolding a_view paragraph_limit
a_text = record { view = a_view; canonical = lent []; passes = refl }

abbrev bare_passes : Passing
bare_passes = record { seen = record { first = 4; fields = [] }; text = [] }

views_shown : (passing_judged a_view ≡ bare_passes) × (doc_judged a_view ≡ Any)
    × (passing_of a_text ≡ bare_passes) × (doc_of a_text ≡ Any)
    × (checked_answer (Ok (Some a_text)) ≡ Ok (Some bare_passes))
    × (checked_answer (Ok None) ≡ Ok None) × (checked_answer (Err Read) ≡ Err Read)
unfolding a_view a_text paragraph_limit
views_shown = (refl, refl, refl, refl, refl, refl, refl)
