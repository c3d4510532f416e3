-- The answers of a reader are those of the stream of the file.
use Rattle.deb_syntax.proofs.Common.{◌≡◌, ℕ, ◌+◌, ◌≤◌, Bool, true, false, cond, List, [], ◌∷◌, Option, Some, None, Err, length, drop, refl, sym, ap, ◌∙◌, arith, FileTooLong, Refusal, Paragraph, judged, seen_from}
use Rattle.std.specs.Prelude.{zero, suc}
use Rattle.deb_base.specs.Bodies.{paragraph_limit, file_limit}
use Rattle.deb_syntax.specs.Answers.{answer_of_first_under, is_line, line_beyond, line_too_long, paragraph_answer, paragraphs_within}
use Rattle.deb_syntax.specs.Streams.{Stream, AnswersAreOfStream, end_by, item_of, stream_answer, stream_from_under, with_item}

at_first : (limit : ℕ) (beyond : Option ℕ) (p : Paragraph) (more : List Paragraph) → answer_of_first_under limit beyond (p ∷ more) ≡ paragraph_answer (line_too_long p.first limit p.lines) beyond p
at_first limit None p more = refl
at_first limit (Some line) p more = refl

-- the first answer, by why the stream ends there, if it does
first_answer : (limit : ℕ) (beyond : Option ℕ) (p : Paragraph) (more : List Paragraph) (stream : Stream) (long : Option ℕ) (cut : Bool) → line_too_long p.first limit p.lines ≡ long → is_line (p.first + length p.lines) beyond ≡ cut
    → answer_of_first_under limit beyond (p ∷ more) ≡ stream_answer (with_item (item_of p) (end_by (p.first + length p.lines) long cut) stream) 0
first_answer limit beyond p more stream (Some line) cut is_long is_cut = at_first limit beyond p more ∙ ap (λ t. paragraph_answer t beyond p) is_long
first_answer limit beyond p more stream None true is_long is_cut = at_first limit beyond p more ∙ ap (λ t. paragraph_answer t beyond p) is_long ∙ ap (λ t. cond t (Err (record { code = FileTooLong; line = p.first + length p.lines })) (seen_from p.first (judged p.first p.lines))) is_cut
first_answer limit beyond p more stream None false is_long is_cut = at_first limit beyond p more ∙ ap (λ t. paragraph_answer t beyond p) is_long ∙ ap (λ t. cond t (Err (record { code = FileTooLong; line = p.first + length p.lines })) (seen_from p.first (judged p.first p.lines))) is_cut

-- after the first item is the stream that follows it
later : (item : Rattle.deb_syntax.specs.Streams.Item) (end : Option Refusal) (stream : Stream) (count : ℕ) → suc count ≤ length (with_item item end stream).items → (count ≤ length stream.items) × (stream_answer (with_item item end stream) (suc count) ≡ stream_answer stream count)
later item None stream count h = (omega (arith, h), refl)
later item (Some refusal) stream count h = absurd (omega (arith, h))

stream_answers : (limit : ℕ) (beyond : Option ℕ) (ps : List Paragraph) (count : ℕ) → count ≤ length (stream_from_under limit beyond ps).items → answer_of_first_under limit beyond (drop count ps) ≡ stream_answer (stream_from_under limit beyond ps) count
stream_answers limit None [] zero h = refl
stream_answers limit (Some line) [] zero h = refl
stream_answers limit beyond [] (suc count) h = absurd (omega (arith, h))
stream_answers limit beyond (p ∷ more) zero h = first_answer limit beyond p more (stream_from_under limit beyond more) _ _ refl refl
stream_answers limit beyond (p ∷ more) (suc count) h =
    let l = later (item_of p) (Rattle.deb_syntax.specs.Streams.end_at_under limit beyond p) (stream_from_under limit beyond more) count h in
    stream_answers limit beyond more count l.0 ∙ sym l.1

pub answers_are_of_stream : AnswersAreOfStream
answers_are_of_stream text count h = stream_answers paragraph_limit (line_beyond 1 file_limit text) (paragraphs_within text) count h
