-- Laws of the stream of a document, and of the lines of its refusals (this project's own).
use Rattle.std.specs.Prelude.{◌≡◌, ◌↔◌, ℕ, true, false, List, [], ◌∷◌, ◌++◌, length, Option, Some, None, Ok, Err, refl}
use Rattle.deb_base.specs.Bodies.{paragraph_limit}
use Rattle.deb_base.specs.Docs.{is_single}
use Rattle.deb_base.specs.declared.doc.Doc.{Doc}
use Rattle.deb_base.specs.declared.refusal.Refusal.{Refusal}
use Rattle.deb_syntax.specs.Lines.{Paragraph}
use Rattle.deb_syntax.specs.Meaning.{Entries}
use Rattle.deb_syntax.specs.Resuming.{IsWithout}
use Rattle.deb_control.specs.AllRefusals.{file_lines, lines_of_refusals, refusals_of, total_line}
use Rattle.deb_control.specs.Documents.{Accepted, Meaning, refusal_of, rules_of}
use Rattle.deb_control.specs.Refusals.{next_checked}
use Rattle.deb_control.specs.Streams.{ended_by, is_end_under, item_of, refusal_at_end, refusals_by, stream_from, with_item}

abbrev pub first_of : {A : Type 0} → List A → Option A
first_of [] = None
first_of (one ∷ more) = Some one

-- The first refusal of the stream of a file, if it has one, is the refusal of the file.
abbrev pub FirstIsTheRefusal : Type 0
FirstIsTheRefusal =
    (doc : Doc) (text : List ℕ) → first_of (refusals_by (rules_of doc) text) ≡ refusal_of doc text

-- The stream of a file has no refusal exactly where the file is accepted with some meaning.
abbrev pub NoRefusalIsAccepted : Type 0
NoRefusalIsAccepted =
    (doc : Doc) (text : List ℕ) → (refusals_by (rules_of doc) text ≡ [])
    ↔ ((meaning : Meaning) × Accepted doc text meaning)

-- After paragraphs that have passed, a refusal that doesn't end the stream is its next item, and
-- the stream of the text without that paragraph follows.
abbrev pub RefusedIsLeftOut : Type 0
RefusedIsLeftOut =
    (doc : Doc) (text : List ℕ) (before : List Entries) (p : Paragraph) (other : List ℕ)
    (refusal : Refusal) → IsWithout text (length before) p other
    → next_checked (rules_of doc) text before ≡ Err refusal
    → is_end_under paragraph_limit (rules_of doc) p refusal ≡ false
    → stream_from (rules_of doc) text before
    ≡ with_item (item_of p (Err refusal)) (stream_from (rules_of doc) other before)

-- After paragraphs that have passed, one that passes is the next item, and the stream after it
-- follows.
abbrev pub PassedIsNext : Type 0
PassedIsNext =
    (doc : Doc) (text : List ℕ) (before : List Entries) (entries : Entries)
    → next_checked (rules_of doc) text before ≡ Ok (Some entries)
    → (p : Paragraph) × (stream_from (rules_of doc) text before
    ≡ with_item (item_of p (Ok entries)) (stream_from (rules_of doc) text (before ++ entries ∷ [])))

-- Where none follows after them, the stream ends.
abbrev pub EndEndsTheStream : Type 0
EndEndsTheStream =
    (doc : Doc) (text : List ℕ) (before : List Entries)
    → next_checked (rules_of doc) text before ≡ Ok None
    → stream_from (rules_of doc) text before ≡ ended_by None

-- No line of a refusal is written exactly where the file is accepted with some meaning.
abbrev pub NoLineIsAccepted : Type 0
NoLineIsAccepted =
    (doc : Doc) (text : List ℕ) → (lines_of_refusals (refusals_of doc text) ≡ [])
    ↔ ((meaning : Meaning) × Accepted doc text meaning)

-- A kind of document that has exactly one paragraph has no refusal but that of the file.
abbrev pub SingleHasOne : Type 0
SingleHasOne =
    (doc : Doc) (text : List ℕ) → is_single doc ≡ true
    → refusals_of doc text ≡ refusal_at_end (refusal_of doc text)

-- For a file that is accepted with a meaning the last line is the only one.
abbrev pub AcceptedHasOneLine : Type 0
AcceptedHasOneLine =
    (doc : Doc) (text : List ℕ) (meaning : Meaning) → Accepted doc text meaning
    → file_lines doc text ≡ total_line (length meaning) 0

first_refusals : (first_of {A = ℕ} [] ≡ None) × (first_of {A = ℕ} (3 ∷ 5 ∷ []) ≡ Some 3)
first_refusals = (refl, refl)
