-- Which refusals end the stream of a file.
use Rattle.std.proofs.Common.{◌≡◌, ℕ, zero, suc, ◌+◌, ◌==◌, ◌||◌, ◌&&◌, Bool, true, false, not, cond, List, [], ◌∷◌, length, drop, Option, None, Some, Result, Ok, Err, refl, sym, ap, ◌∙◌, le-leb, is_some}
use Rattle.std.specs.Prelude.{slice_get}
use Rattle.deb_base.specs.Bodies.{paragraph_limit, file_limit}
use Rattle.deb_base.specs.Codes.{number_of}
use Rattle.deb_base.specs.Docs.{is_single}
use Rattle.deb_base.specs.declared.code.Code.TheVariants.{FileTooLong, TooManyParagraphs}
use Rattle.deb_base.specs.declared.doc.Doc.{Doc}
use Rattle.deb_base.specs.declared.fault.Fault.TheVariants.{Refused}
use Rattle.deb_base.specs.declared.refusal.Refusal.{Refusal}
use Rattle.deb_syntax.specs.Answers.{Seen, answer_of_first, is_line, line_beyond, line_too_long, next_answer, paragraph_answer, paragraphs_within, seen_from}
use Rattle.deb_syntax.specs.Fields.{Field}
use Rattle.deb_syntax.specs.Judged.{judged_behind, judged_by}
use Rattle.deb_syntax.specs.Judging.{judged}
use Rattle.deb_syntax.specs.Lines.{Paragraph}
use Rattle.deb_syntax.specs.Meaning.{Entries}
use Rattle.deb_syntax.proofs.JudgingLawsRefusals.{judged-refusal}
use Rattle.deb_control.specs.Documents.{rules_of}
use Rattle.deb_control.specs.Refusals.{answer_behind, answer_of_seen, has_some, line_behind, next_after}
use Rattle.deb_control.specs.Refused.{lines_after}
use Rattle.deb_control.specs.Resuming.{refuses_paragraph, resumes}
use Rattle.deb_control.specs.Rules.{Rules}
use Rattle.deb_control.specs.Streams.{CheckedStream, end_of, ended_by, is_end_under, item_of, stream_after, stream_behind_under, with_answer, with_item}
use Rattle.deb_control.proofs.RefusalLines.{same_refusal}
use Rattle.deb_control.proofs.StreamLaws.{refused_next}

slice_get-drop : {X : Type 0} (k : ℕ) (xs ys : List X) (x : X) → drop k xs ≡ x ∷ ys → slice_get xs k ≡ Some x
slice_get-drop zero [] ys x is = absurd cc
slice_get-drop (suc k) [] ys x is = absurd cc
slice_get-drop zero (y ∷ xs) ys x is = cc
slice_get-drop (suc k) (y ∷ xs) ys x is = slice_get-drop k xs ys x is

-- after paragraphs that have passed, where another follows
module _ (doc : Doc) (text : List ℕ) (k : ℕ) (before : List Entries) (p : Paragraph) (more : List Paragraph) (here : drop k (paragraphs_within text) ≡ p ∷ more) (several : is_single doc ≡ false) where
  abbrev beyond : Option ℕ
  beyond = line_beyond 1 file_limit text

  abbrev long : Option ℕ
  long = line_too_long p.first paragraph_limit p.lines

  abbrev first_answer : Result (Option Seen) Refusal
  first_answer = paragraph_answer long beyond p

  next_is : next_answer text k ≡ first_answer
  next_is = ap (answer_of_first beyond) here ∙ go beyond
    where
      go : (o : Option ℕ) → answer_of_first o (p ∷ more) ≡ paragraph_answer long o p
      go None = refl
      go (Some line) = refl

  lines_are : lines_after (rules_of doc) text k before ≡ judged_by first_answer (Some p)
  lines_are =
      ap (λ t. cond (t && has_some before) None (judged_behind text k)) several
      ∙ ap (λ a. judged_by a (slice_get (paragraphs_within text) k)) next_is
      ∙ ap (judged_by first_answer) (slice_get-drop k (paragraphs_within text) more p here)

  answer_is : next_after (rules_of doc) text k before ≡ answer_of_seen (rules_of doc) (line_behind text) before first_answer
  answer_is =
      ap (answer_behind (rules_of doc) beyond (line_behind text) before) here
      ∙ ap (λ t. cond (t && has_some before) (Err (record { code = TooManyParagraphs; line = p.first })) (answer_of_seen (rules_of doc) (line_behind text) before (answer_of_first beyond (p ∷ more)))) several
      ∙ ap (answer_of_seen (rules_of doc) (line_behind text) before) (sym (ap (answer_of_first beyond) here) ∙ next_is)

  -- a paragraph whose lines were judged has none that is too long
  judged_are_short : (last : Paragraph) → lines_after (rules_of doc) text k before ≡ Some last → long ≡ None
  judged_are_short last is = go long refl
    where
      go : (o : Option ℕ) → long ≡ o → long ≡ None
      go None short = short
      go (Some line) too_long =
          let none : judged_by first_answer (Some p) ≡ None = ap (λ o. judged_by (paragraph_answer o beyond p) (Some p)) too_long in
          let e : None ≡ Some last = sym none ∙ sym lines_are ∙ is in
          absurd cc

  -- a refusal after which the reader doesn't go on ends the stream
  ends : (refusal : Refusal) → next_after (rules_of doc) text k before ≡ Err refusal → refuses_paragraph (Some (Refused refusal)) (lines_after (rules_of doc) text k before) ≡ false → (is_some long || (number_of refusal.code == 9)) ≡ true
  ends refusal refused stays = go long refl
    where
      ninth : (last : Option Paragraph) → last ≡ Some p → refuses_paragraph (Some (Refused refusal)) last ≡ false → (number_of refusal.code == 9) ≡ true
      ninth last is goes = nine (number_of refusal.code == 9) (sym (ap (refuses_paragraph (Some (Refused refusal))) is) ∙ goes)
        where
          nine : (t : Bool) → not t ≡ false → t ≡ true
          nine true h = refl
          nine false h = absurd cc

      of_lines : (r : Result (List Field) Refusal) → judged p.first p.lines ≡ r → first_answer ≡ seen_from p.first r → (number_of refusal.code == 9) ≡ true
      of_lines (Ok fields) judges answer = ninth _ (lines_are ∙ ap (λ a. judged_by a (Some p)) answer) stays
      of_lines (Err other) judges answer =
          let low = (judged-refusal p.first p.lines other judges).most in
          ninth _ (lines_are ∙ ap (λ a. judged_by a (Some p)) answer ∙ ap (λ t. cond t (Some p) None) (le-leb (number_of other.code) 7 low)) stays

      short : (t : Bool) → is_line (p.first + length p.lines) beyond ≡ t → long ≡ None → (number_of refusal.code == 9) ≡ true
      short true cut is =
          let answer : first_answer ≡ Err (record { code = FileTooLong; line = p.first + length p.lines }) = ap (λ o. paragraph_answer o beyond p) is ∙ ap (λ t. cond t (Err (record { code = FileTooLong; line = p.first + length p.lines })) (seen_from p.first (judged p.first p.lines))) cut in
          let same : refusal ≡ record { code = FileTooLong; line = p.first + length p.lines } = same_refusal (next_after (rules_of doc) text k before) refusal (record { code = FileTooLong; line = p.first + length p.lines }) refused (answer_is ∙ ap (answer_of_seen (rules_of doc) (line_behind text) before) answer) in
          ap (λ r. number_of r.code == 9) same
      short false cut is =
          of_lines (judged p.first p.lines) refl (ap (λ o. paragraph_answer o beyond p) is ∙ ap (λ t. cond t (Err (record { code = FileTooLong; line = p.first + length p.lines })) (seen_from p.first (judged p.first p.lines))) cut)

      go : (o : Option ℕ) → long ≡ o → (is_some long || (number_of refusal.code == 9)) ≡ true
      go None is = ap (λ o. is_some o || (number_of refusal.code == 9)) is ∙ short (is_line (p.first + length p.lines) beyond) refl is
      go (Some line) is = ap (λ o. is_some o || (number_of refusal.code == 9)) is

-- the reader doesn't go on where one paragraph is asked for
several_if_goes : (doc : Doc) (refusal : Refusal) (last : Option Paragraph) → resumes doc (Some (Refused refusal)) last ≡ true → is_single doc ≡ false
several_if_goes doc refusal last goes = go (is_single doc) refl
  where
    go : (s : Bool) → is_single doc ≡ s → is_single doc ≡ false
    go false is = is
    go true is = let e : false ≡ true = sym (ap (λ s. not s && refuses_paragraph (Some (Refused refusal)) last) is) ∙ goes in absurd cc

module _ (doc : Doc) (text : List ℕ) (k : ℕ) (before : List Entries) (refusal : Refusal) (refused : next_after (rules_of doc) text k before ≡ Err refusal) where
  -- After a refusal after which the reader goes on, the stream does.
  pub goes_on_after : resumes doc (Some (Refused refusal)) (lines_after (rules_of doc) text k before) ≡ true → (p : Paragraph) × (stream_after (rules_of doc) text k before ≡ with_item (item_of p (Err refusal)) (stream_after (rules_of doc) text (k + 1) before))
  goes_on_after goes = on (lines_after (rules_of doc) text k before) refl (drop k (paragraphs_within text)) refl
    where
      several : is_single doc ≡ false
      several = several_if_goes doc refusal _ goes

      -- after the last paragraph no lines are judged
      none_at_end : drop k (paragraphs_within text) ≡ [] → lines_after (rules_of doc) text k before ≡ None
      none_at_end here =
          ap (λ t. cond (t && has_some before) None (judged_behind text k)) several
          ∙ ap (λ left. judged_by (answer_of_first (line_beyond 1 file_limit text) left) (slice_get (paragraphs_within text) k)) here
          ∙ at_end (line_beyond 1 file_limit text)
        where
          at_end : (o : Option ℕ) → judged_by (answer_of_first o []) (slice_get (paragraphs_within text) k) ≡ None
          at_end None = refl
          at_end (Some line) = refl

      on : (last : Option Paragraph) → lines_after (rules_of doc) text k before ≡ last → (left : List Paragraph) → drop k (paragraphs_within text) ≡ left → (p : Paragraph) × (stream_after (rules_of doc) text k before ≡ with_item (item_of p (Err refusal)) (stream_after (rules_of doc) text (k + 1) before))
      on None is left here = let e : false ≡ true = sym (ap (λ s. not s && false) several) ∙ ap (resumes doc (Some (Refused refusal))) (sym is) ∙ goes in absurd cc
      on (Some last) is [] here = let e : None ≡ Some last = sym (none_at_end here) ∙ is in absurd cc
      on (Some last) is (p ∷ more) here = (
        p,
        refused_next (rules_of doc) text k before p more refusal here refused
            (ap (λ s. s || (is_some (line_too_long p.first paragraph_limit p.lines) || (number_of refusal.code == 9))) several
            ∙ ap (λ o. is_some o || (number_of refusal.code == 9)) (judged_are_short doc text k before p more here several last is)
            ∙ ninth (number_of refusal.code == 9) (sym (ap (λ s. not s && not (number_of refusal.code == 9)) several) ∙ ap (resumes doc (Some (Refused refusal))) (sym is) ∙ goes)),
      )
        where
          ninth : (t : Bool) → not t ≡ true → t ≡ false
          ninth false h = refl
          ninth true h = absurd cc

-- by whether a refusal ends the stream, what its stream is
unfoldable pub refused_stream : Rules → List ℕ → List Entries → Paragraph → List Paragraph → Refusal → CheckedStream
refused_stream rules text before p more refusal =
    cond (is_end_under paragraph_limit rules p refusal) (ended_by (Some refusal)) (with_item (item_of p (Err refusal)) (stream_behind_under paragraph_limit file_limit rules (line_beyond 1 file_limit text) (line_behind text) before more))

pub stream_is : (rules : Rules) (text : List ℕ) (k : ℕ) (before : List Entries) (p : Paragraph) (more : List Paragraph) (refusal : Refusal) → drop k (paragraphs_within text) ≡ p ∷ more → next_after rules text k before ≡ Err refusal → stream_after rules text k before ≡ refused_stream rules text before p more refusal
unfolding refused_stream
stream_is rules text k before p more refusal here refused =
    let beyond = line_beyond 1 file_limit text in
    let n = line_behind text in
    let answer : answer_behind rules beyond n before (p ∷ more) ≡ Err refusal = ap (answer_behind rules beyond n before) (sym here) ∙ refused in
    ap (λ left. stream_behind_under paragraph_limit file_limit rules beyond n before left) here
    ∙ ap (λ a. with_answer (is_end_under paragraph_limit rules p) p before a (λ passed. stream_behind_under paragraph_limit file_limit rules beyond n passed more)) answer

-- A refusal after which the reader doesn't go on is the last one.
pub ends_the_stream : (doc : Doc) (text : List ℕ) (k : ℕ) (before : List Entries) (refusal : Refusal) → next_after (rules_of doc) text k before ≡ Err refusal → resumes doc (Some (Refused refusal)) (lines_after (rules_of doc) text k before) ≡ false → stream_after (rules_of doc) text k before ≡ ended_by (Some refusal)
unfolding refused_stream
ends_the_stream doc text k before refusal refused stays = go (drop k (paragraphs_within text)) refl
  where
    is_end : (p : Paragraph) (more : List Paragraph) → drop k (paragraphs_within text) ≡ p ∷ more → (s : Bool) → is_single doc ≡ s → is_end_under paragraph_limit (rules_of doc) p refusal ≡ true
    is_end p more here true is = ap (λ s. s || (is_some (line_too_long p.first paragraph_limit p.lines) || (number_of refusal.code == 9))) is
    is_end p more here false is =
        ap (λ s. s || (is_some (line_too_long p.first paragraph_limit p.lines) || (number_of refusal.code == 9))) is
        ∙ ends doc text k before p more here is refusal refused (sym (ap (λ s. not s && refuses_paragraph (Some (Refused refusal)) (lines_after (rules_of doc) text k before)) is) ∙ stays)

    go : (left : List Paragraph) → drop k (paragraphs_within text) ≡ left → stream_after (rules_of doc) text k before ≡ ended_by (Some refusal)
    go [] here =
        ap (λ left. stream_behind_under paragraph_limit file_limit (rules_of doc) (line_beyond 1 file_limit text) (line_behind text) before left) here
        ∙ ap end_of (ap (answer_behind (rules_of doc) (line_beyond 1 file_limit text) (line_behind text) before) (sym here) ∙ refused)
    go (p ∷ more) here =
        stream_is (rules_of doc) text k before p more refusal here refused
        ∙ ap (λ t. cond t (ended_by (Some refusal)) (with_item (item_of p (Err refusal)) (stream_behind_under paragraph_limit file_limit (rules_of doc) (line_beyond 1 file_limit text) (line_behind text) before more))) (is_end p more here (is_single doc) refl)
