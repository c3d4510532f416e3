-- A stream without a refusal is that of an accepted file, and a stream goes on without what is refused.
use Rattle.deb_base.specs.Bodies.{file_limit}
use Rattle.deb_control.proofs.Common.{◌≡◌, ℕ, ◌+◌, ◌++◌, false, cond, List, [], ◌∷◌, length, drop, Option, None, Some, Result, Ok, Err, refl, sym, ap, ◌∙◌, arith, length-append, paragraph_limit, Refusal, Entries, Paragraph, Rules, paragraphs_within, rules_of, answer_behind, line_behind, next_after}
use Rattle.deb_syntax.specs.Answers.{line_beyond}
use Rattle.deb_control.proofs.FollowedParagraphs.{drop_one, never_behind_all}
use Rattle.deb_control.proofs.SeenRefusals.{first_is_refusal}
use Rattle.deb_control.specs.Laws.{RefusedOrAccepted}
use Rattle.deb_control.specs.Streams.{CheckedStream, end_of, ended_by, is_end_under, item_of, stream_after, stream_behind_under, with_answer, with_item}
use Rattle.deb_control.specs.StreamLaws.{EndEndsTheStream, NoRefusalIsAccepted, PassedIsNext, RefusedIsLeftOut, first_of}

no_first : (refusals : List Refusal) → first_of refusals ≡ None → refusals ≡ []
no_first [] none = refl
no_first (refusal ∷ refusals) none = absurd cc

pub no_refusal_is_accepted : RefusedOrAccepted → NoRefusalIsAccepted
no_refusal_is_accepted law doc text = (
  λ none. (law doc text).0 (sym (first_is_refusal doc text) ∙ ap first_of none),
  λ accepted. no_first _ (first_is_refusal doc text ∙ (law doc text).1 accepted),
)

drop_seam : (before : List Paragraph) (count : ℕ) (more : List Paragraph) → length before ≡ count → drop count (before ++ more) ≡ more
drop_seam before count more counted = ap (λ n. drop n (before ++ more)) (sym counted) ∙ go before
  where
    go : (before : List Paragraph) → drop (length before) (before ++ more) ≡ more
    go [] = refl
    go (p ∷ before) = go before

pub refused_is_left_out : RefusedIsLeftOut
refused_is_left_out doc text before p other refusal w refused goes_on =
    let rules = rules_of doc in
    let beyond = line_beyond 1 file_limit text in
    let n = line_behind text in
    let here : drop (length before) (paragraphs_within text) ≡ p ∷ w.more = ap (drop (length before)) w.was ∙ drop_seam w.before (length before) (p ∷ w.more) w.counted in
    let there : drop (length before) (paragraphs_within other) ≡ w.more = ap (drop (length before)) w.is ∙ drop_seam w.before (length before) w.more w.counted in
    let stream : List Paragraph → CheckedStream = λ left. stream_behind_under paragraph_limit file_limit rules beyond n before left in
    let answer : answer_behind rules beyond n before (p ∷ w.more) ≡ Err refusal = ap (answer_behind rules beyond n before) (sym here) ∙ refused in
    ap stream here
    ∙ ap (λ a. with_answer (is_end_under paragraph_limit rules p) p before a (λ passed. stream_behind_under paragraph_limit file_limit rules beyond n passed w.more)) answer
    ∙ ap (λ t. cond t (ended_by (Some refusal)) (with_item (item_of p (Err refusal)) (stream w.more))) goes_on
    ∙ ap (with_item (item_of p (Err refusal)))
    (ap stream (sym there) ∙ ap (λ b. stream_behind_under paragraph_limit file_limit rules b n before (drop (length before) (paragraphs_within other))) (sym w.beyond)
    ∙ ap (λ k. stream_behind_under paragraph_limit file_limit rules (line_beyond 1 file_limit other) (k + 1) before (drop (length before) (paragraphs_within other))) (sym w.lines))

-- the stream after the first `k` paragraphs, of which these passed
module _ (rules : Rules) (text : List ℕ) (k : ℕ) (before : List Entries) where
  abbrev stream_at : List Paragraph → CheckedStream
  stream_at left = stream_behind_under paragraph_limit file_limit rules (line_beyond 1 file_limit text) (line_behind text) before left

  by_answer : (p : Paragraph) (left : List Paragraph) (answer : Result (Option Entries) Refusal) → drop k (paragraphs_within text) ≡ p ∷ left → next_after rules text k before ≡ answer → stream_after rules text k before ≡ with_answer (is_end_under paragraph_limit rules p) p before answer (λ passed. stream_behind_under paragraph_limit file_limit rules (line_beyond 1 file_limit text) (line_behind text) passed left)
  by_answer p left answer here is =
      ap stream_at here
      ∙ ap (λ a. with_answer (is_end_under paragraph_limit rules p) p before a (λ passed. stream_behind_under paragraph_limit file_limit rules (line_beyond 1 file_limit text) (line_behind text) passed left))
      (ap (answer_behind rules (line_beyond 1 file_limit text) (line_behind text) before) (sym here) ∙ is)

  rest_is : (p : Paragraph) (left : List Paragraph) → drop k (paragraphs_within text) ≡ p ∷ left → left ≡ drop (k + 1) (paragraphs_within text)
  rest_is p left here = ap (drop 1) (sym here) ∙ drop_one k (paragraphs_within text)

  -- one that passes
  pub passed_next : (entries : Entries) → next_after rules text k before ≡ Ok (Some entries) → (p : Paragraph) × (stream_after rules text k before ≡ with_item (item_of p (Ok entries)) (stream_after rules text (k + 1) (before ++ entries ∷ [])))
  passed_next entries passes = go (drop k (paragraphs_within text)) refl
    where
      go : (left : List Paragraph) → drop k (paragraphs_within text) ≡ left → (p : Paragraph) × (stream_after rules text k before ≡ with_item (item_of p (Ok entries)) (stream_after rules text (k + 1) (before ++ entries ∷ [])))
      go [] here = absurd (never_behind_all rules (line_beyond 1 file_limit text) (line_behind text) before entries (ap (answer_behind rules (line_beyond 1 file_limit text) (line_behind text) before) (sym here) ∙ passes))
      go (p ∷ left) here = (
        p,
        by_answer p left (Ok (Some entries)) here passes
            ∙ ap (λ ps. with_item (item_of p (Ok entries)) (stream_behind_under paragraph_limit file_limit rules (line_beyond 1 file_limit text) (line_behind text) (before ++ entries ∷ []) ps)) (rest_is p left here),
      )

  -- one that is refused, where the stream goes on
  pub refused_next : (p : Paragraph) (left : List Paragraph) (refusal : Refusal) → drop k (paragraphs_within text) ≡ p ∷ left → next_after rules text k before ≡ Err refusal → is_end_under paragraph_limit rules p refusal ≡ false → stream_after rules text k before ≡ with_item (item_of p (Err refusal)) (stream_after rules text (k + 1) before)
  refused_next p left refusal here refused goes_on =
      by_answer p left (Err refusal) here refused
      ∙ ap (λ t. cond t (ended_by (Some refusal)) (with_item (item_of p (Err refusal)) (stream_at left))) goes_on
      ∙ ap (λ ps. with_item (item_of p (Err refusal)) (stream_at ps)) (rest_is p left here)

  -- and none
  pub end_next : next_after rules text k before ≡ Ok None → stream_after rules text k before ≡ ended_by None
  end_next none = go (drop k (paragraphs_within text)) refl
    where
      go : (left : List Paragraph) → drop k (paragraphs_within text) ≡ left → stream_after rules text k before ≡ ended_by None
      go [] here = ap stream_at here ∙ ap end_of (ap (answer_behind rules (line_beyond 1 file_limit text) (line_behind text) before) (sym here) ∙ none)
      go (p ∷ left) here = by_answer p left (Ok None) here none

pub passed_is_next : PassedIsNext
passed_is_next doc text before entries passes =
    let next = passed_next (rules_of doc) text (length before) before entries passes in
    let count : length before + 1 ≡ length (before ++ entries ∷ []) = omega (arith, length-append before (entries ∷ [])) in
    (next.0, next.1 ∙ ap (λ k. with_item (item_of next.0 (Ok entries)) (stream_after (rules_of doc) text k (before ++ entries ∷ []))) count)

pub end_ends_stream : EndEndsTheStream
end_ends_stream doc text before none = end_next (rules_of doc) text (length before) before none
