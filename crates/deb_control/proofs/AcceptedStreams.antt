-- The paragraphs of an accepted file all pass, and no refusal of it has a line.
use Rattle.std.proofs.Common.{◌≡◌, Bool, ℕ, ◌+◌, ◌++◌, List, [], ◌∷◌, length, map, Option, None, Some, Result, Ok, Err, refl, sym, ap, ◌∙◌, arith, length-append}
use Rattle.std.proofs.lemmas.List.{length-map}
use Rattle.deb_base.specs.Bodies.{paragraph_limit, file_limit}
use Rattle.deb_base.specs.declared.doc.Doc.{Doc}
use Rattle.deb_base.specs.declared.refusal.Refusal.{Refusal}
use Rattle.deb_syntax.specs.Answers.{line_beyond, paragraphs_within}
use Rattle.deb_syntax.specs.Lines.{Paragraph}
use Rattle.deb_syntax.specs.Meaning.{Entries}
use Rattle.deb_field.specs.ValueLaws.{value_law}
use Rattle.deb_field.specs.Values.{ValueMeaning, value_text, SpellsValue}
use Rattle.deb_control.specs.Calls.{HasParagraphs}
use Rattle.deb_control.specs.Documents.{Accepted, Meaning, rules_of}
use Rattle.deb_control.specs.Refusals.{Outcome, answer_behind, followed, line_behind, outcome_behind, stopped}
use Rattle.deb_control.specs.Rules.{Rules}
use Rattle.deb_control.specs.Streams.{CheckedStream, end_of, is_end_under, stream_behind_under, with_answer}
use Rattle.deb_control.specs.ValueFiles.{body_under}
use Rattle.deb_control.proofs.Accepting.{outcome-accepted, refused_or_accepted}
use Rattle.deb_control.proofs.DocumentRules.{document_rules}
use Rattle.deb_control.proofs.StreamLaws.{no_refusal_is_accepted}
use Rattle.deb_control.specs.StreamLaws.{AcceptedHasOneLine, NoLineIsAccepted, NoRefusalIsAccepted}
use Rattle.deb_control.specs.AllRefusals.{lines_of_refusals, passed_among, passed_of, refusals_of, total_line}

at_end : (before : List Entries) (answer : Result (Option Entries) Refusal) → passed_among (end_of answer).items + length before ≡ length (stopped before answer).passed
at_end before (Ok entries) = omega arith
at_end before (Err refusal) = omega arith

-- by what is answered of a paragraph
at_one : (is_end : Refusal → Bool) (p : Paragraph) (before : List Entries) (answer : Result (Option Entries) Refusal) (stream : List Entries → CheckedStream) (outcome : Entries → Outcome) → ((entries : Entries) → (outcome entries).refusal ≡ None → passed_among (stream (before ++ entries ∷ [])).items + length (before ++ entries ∷ []) ≡ length (outcome entries).passed) → (followed before answer outcome).refusal ≡ None → passed_among (with_answer is_end p before answer stream).items + length before ≡ length (followed before answer outcome).passed
at_one is_end p before (Ok (Some entries)) stream outcome same none = omega (arith, same entries none, length-append before (entries ∷ []))
at_one is_end p before (Ok None) stream outcome same none = omega arith
at_one is_end p before (Err refusal) stream outcome same none = absurd cc

counted_behind : (rules : Rules) (beyond : Option ℕ) (n : ℕ) (before : List Entries) (left : List Paragraph) → (outcome_behind rules beyond n before left).refusal ≡ None → passed_among (stream_behind_under paragraph_limit file_limit rules beyond n before left).items + length before ≡ length (outcome_behind rules beyond n before left).passed
counted_behind rules beyond n before [] none = at_end before (answer_behind rules beyond n before [])
counted_behind rules beyond n before (p ∷ left) none =
    at_one (is_end_under paragraph_limit rules p) p before (answer_behind rules beyond n before (p ∷ left)) (λ passed. stream_behind_under paragraph_limit file_limit rules beyond n passed left) (λ entries. outcome_behind rules beyond n (before ++ entries ∷ []) left)
    (λ entries. counted_behind rules beyond n (before ++ entries ∷ []) left) none

-- as many pass as an accepted file has paragraphs
accepted_passed : (doc : Doc) (text : List ℕ) (meaning : Meaning) → Accepted doc text meaning → passed_of doc text ≡ length meaning
accepted_passed doc text meaning accepted =
    let is = outcome-accepted ValueMeaning (SpellsValue doc) value_text (value_law doc) (rules_of doc) (document_rules doc) text meaning accepted in
    let counted = counted_behind (rules_of doc) (line_beyond 1 file_limit text) (line_behind text) [] (paragraphs_within text) (ap (λ o. o.refusal) is) in
    omega (arith, counted, ap (λ o. length o.passed) is, length-map meaning (map (body_under value_text)))

-- A file is accepted exactly if nothing is refused, and then with as many paragraphs as pass.
pub no_refusal_accepted : NoRefusalIsAccepted
no_refusal_accepted = no_refusal_is_accepted (λ doc. refused_or_accepted ValueMeaning (SpellsValue doc) value_text (value_law doc) (rules_of doc) (document_rules doc))

pub nothing_refused : (doc : Doc) (text : List ℕ) (passed : ℕ) → refusals_of doc text ≡ [] → passed ≡ passed_of doc text → HasParagraphs doc text passed
nothing_refused doc text passed none total =
    let found = (no_refusal_accepted doc text).0 none in
    record { meaning = found.0; accepted = found.1; count = sym (accepted_passed doc text found.0 found.1) ∙ sym total }

pub accepted_has_one_line : AcceptedHasOneLine
accepted_has_one_line doc text meaning accepted =
    ap (λ refusals. lines_of_refusals refusals ++ total_line (passed_of doc text) (length refusals)) ((no_refusal_accepted doc text).1 (meaning, accepted)) ∙ ap (λ n. total_line n 0) (accepted_passed doc text meaning accepted)

none_written : (refusals : List Refusal) → lines_of_refusals refusals ≡ [] → refusals ≡ []
none_written [] none = refl
none_written (refusal ∷ refusals) none = absurd cc

pub no_line_is_accepted : NoLineIsAccepted
no_line_is_accepted doc text =
    let either = no_refusal_accepted doc text in (
      λ none. either.0 (none_written (refusals_of doc text) none),
      λ accepted. ap lines_of_refusals (either.1 accepted),
    )
