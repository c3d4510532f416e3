-- Where exactly one paragraph is asked for, the first refusal ends the stream.
use Rattle.std.proofs.Common.{◌≡◌, ◌||◌, ◌==◌, ℕ, ◌++◌, Bool, true, cond, List, [], ◌∷◌, Option, None, Some, Result, Ok, Err, refl, ap, is_some}
use Rattle.deb_base.specs.Bodies.{paragraph_limit, file_limit}
use Rattle.deb_base.specs.Codes.{number_of}
use Rattle.deb_base.specs.declared.refusal.Refusal.{Refusal}
use Rattle.deb_syntax.specs.Answers.{line_beyond, line_too_long, paragraphs_within}
use Rattle.deb_syntax.specs.Lines.{Paragraph}
use Rattle.deb_syntax.specs.Meaning.{Entries}
use Rattle.deb_control.specs.Documents.{rules_of}
use Rattle.deb_control.specs.Refusals.{Outcome, answer_behind, followed, line_behind, outcome_behind, stopped}
use Rattle.deb_control.specs.Rules.{Rules}
use Rattle.deb_control.specs.Streams.{CheckedStream, end_of, ended_by, is_end_under, item_of, refusal_at_end, stream_behind_under, with_answer, with_item}
use Rattle.deb_control.specs.StreamLaws.{SingleHasOne}
use Rattle.deb_control.specs.AllRefusals.{refusals_of_stream}

at_end : (before : List Entries) (answer : Result (Option Entries) Refusal) → refusals_of_stream (end_of answer) ≡ refusal_at_end (stopped before answer).refusal
at_end before (Ok entries) = refl
at_end before (Err refusal) = refl

-- by what is answered of a paragraph
at_one : (is_end : Refusal → Bool) (p : Paragraph) (before : List Entries) (answer : Result (Option Entries) Refusal) (stream : List Entries → CheckedStream) (outcome : Entries → Outcome) → ((refusal : Refusal) → is_end refusal ≡ true) → ((entries : Entries) → refusals_of_stream (stream (before ++ entries ∷ [])) ≡ refusal_at_end (outcome entries).refusal) → refusals_of_stream (with_answer is_end p before answer stream) ≡ refusal_at_end (followed before answer outcome).refusal
at_one is_end p before (Ok (Some entries)) stream outcome ends same = same entries
at_one is_end p before (Ok None) stream outcome ends same = refl
at_one is_end p before (Err refusal) stream outcome ends same = ap (λ t. refusals_of_stream (cond t (ended_by (Some refusal)) (with_item (item_of p (Err refusal)) (stream before)))) (ends refusal)

one_behind : (rules : Rules) (beyond : Option ℕ) (n : ℕ) (before : List Entries) (left : List Paragraph) → rules.single ≡ true → refusals_of_stream (stream_behind_under paragraph_limit file_limit rules beyond n before left) ≡ refusal_at_end (outcome_behind rules beyond n before left).refusal
one_behind rules beyond n before [] single = at_end before (answer_behind rules beyond n before [])
one_behind rules beyond n before (p ∷ left) single =
    at_one (is_end_under paragraph_limit rules p) p before (answer_behind rules beyond n before (p ∷ left)) _ (λ entries. outcome_behind rules beyond n (before ++ entries ∷ []) left)
    (λ refusal. ap (λ s. s || (is_some (line_too_long p.first paragraph_limit p.lines) || (number_of refusal.code == 9))) single)
    (λ entries. one_behind rules beyond n (before ++ entries ∷ []) left single)

pub single_has_one : SingleHasOne
single_has_one doc text single = one_behind (rules_of doc) (line_beyond 1 file_limit text) (line_behind text) [] (paragraphs_within text) single
