-- The refusals that a reader shows are those of the stream of a file, and the first is that of the file.
use Rattle.deb_base.specs.Bodies.{file_limit}
use Rattle.deb_control.proofs.Common.{◌≡◌, ℕ, ◌+◌, ◌++◌, Bool, true, false, cond, List, [], ◌∷◌, length, Option, None, Some, Result, Ok, Err, refl, sym, ap, ◌∙◌, length-append, paragraph_limit, Doc, Refusal, Entries, Paragraph, Rules, paragraphs_within, rules_of, answer_behind, line_behind}
use Rattle.std.specs.Option.{option_map}
use Rattle.deb_syntax.specs.Answers.{line_beyond}
use Rattle.deb_control.specs.AllRefusals.{refusals_of}
use Rattle.deb_control.specs.Documents.{refusal_of}
use Rattle.deb_control.specs.Refusals.{Outcome, followed, outcome_behind, stopped}
use Rattle.deb_control.specs.SeenRefusals.{SeenRefusal, first_seen, first_seen_in, refusals_alone, refusals_seen, refusals_seen_by, seen_in_items, seen_in_stream, seen_with}
use Rattle.deb_control.specs.StreamLaws.{FirstIsTheRefusal, first_of}
use Rattle.deb_control.specs.Streams.{CheckedItem, CheckedStream, end_of, ended_by, is_end_under, item_of, refusals_after, refusals_in, stream_behind_under, stream_of, with_answer, with_item}

alone_in : (rules : Rules) (text : List ℕ) (k : ℕ) (before : List Entries) (items : List CheckedItem) (end : Option Refusal) → refusals_alone (seen_in_items rules text k before items end) ≡ refusals_in items end
alone_in rules text k before [] None = refl
alone_in rules text k before [] (Some refusal) = refl
alone_in rules text k before (item ∷ items) end = go item.bodies (λ passed. alone_in rules text (k + 1) passed items end)
  where
    go : (bodies : Result Entries Refusal) → ((passed : List Entries) → refusals_alone (seen_in_items rules text (k + 1) passed items end) ≡ refusals_in items end) → refusals_alone (seen_with rules text k before bodies (λ passed. seen_in_items rules text (k + 1) passed items end)) ≡ refusals_after bodies (refusals_in items end)
    go (Ok entries) more = more (before ++ entries ∷ [])
    go (Err refusal) more = ap (λ refusals. refusal ∷ refusals) (more before)

pub alone_are : (doc : Doc) (text : List ℕ) → refusals_alone (refusals_seen doc text) ≡ refusals_of doc text
alone_are doc text = alone_in (rules_of doc) text 0 [] (stream_of (rules_of doc) text).items (stream_of (rules_of doc) text).end

-- ---- the first one

module _ (rules : Rules) (text : List ℕ) where
  abbrev FirstIs : List Entries → CheckedStream → Outcome → Type 0
  FirstIs before stream come = first_of (seen_in_stream rules text (length before) before stream) ≡ first_seen_in rules text come

  at_end : (before : List Entries) (answer : Result (Option Entries) Refusal) → FirstIs before (end_of answer) (stopped before answer)
  at_end before (Ok entries) = refl
  at_end before (Err refusal) = refl

  -- by what is answered of a paragraph
  at_one : (is_end : Refusal → Bool) (p : Paragraph) (before : List Entries) (answer : Result (Option Entries) Refusal) (stream : List Entries → CheckedStream) (come : Entries → Outcome) → ((entries : Entries) → FirstIs (before ++ entries ∷ []) (stream (before ++ entries ∷ [])) (come entries)) → FirstIs before (with_answer is_end p before answer stream) (followed before answer come)
  at_one is_end p before (Ok (Some entries)) stream come same =
      ap (λ k. first_of (seen_in_stream rules text k (before ++ entries ∷ []) (stream (before ++ entries ∷ [])))) (sym (length-append before (entries ∷ []))) ∙ same entries
  at_one is_end p before (Ok None) stream come same = refl
  at_one is_end p before (Err refusal) stream come same = go (is_end refusal)
    where
      go : (t : Bool) → FirstIs before (cond t (ended_by (Some refusal)) (with_item (item_of p (Err refusal)) (stream before))) (record { passed = before; refusal = Some refusal })
      go true = refl
      go false = refl

  first_behind : (beyond : Option ℕ) (n : ℕ) (before : List Entries) (left : List Paragraph) → FirstIs before (stream_behind_under paragraph_limit file_limit rules beyond n before left) (outcome_behind rules beyond n before left)
  first_behind beyond n before [] = at_end before (answer_behind rules beyond n before [])
  first_behind beyond n before (p ∷ left) =
      at_one (is_end_under paragraph_limit rules p) p before (answer_behind rules beyond n before (p ∷ left)) _ (λ entries. outcome_behind rules beyond n (before ++ entries ∷ []) left)
      (λ entries. first_behind beyond n (before ++ entries ∷ []) left)

  pub first_is_seen : first_of (refusals_seen_by rules text) ≡ first_seen rules text
  first_is_seen = first_behind (line_beyond 1 file_limit text) (line_behind text) [] (paragraphs_within text)

first_alone : (refusals : List SeenRefusal) → first_of (refusals_alone refusals) ≡ option_map (λ seen. seen.refusal) (first_of refusals)
first_alone [] = refl
first_alone (seen ∷ refusals) = refl

first_of_outcome : (rules : Rules) (text : List ℕ) (passed : List Entries) (refusal : Option Refusal) → option_map (λ seen. seen.refusal) (first_seen_in rules text (record { passed = passed; refusal = refusal })) ≡ refusal
first_of_outcome rules text passed None = refl
first_of_outcome rules text passed (Some refusal) = refl

pub first_is_refusal : FirstIsTheRefusal
first_is_refusal doc text =
    ap first_of (sym (alone_are doc text)) ∙ first_alone (refusals_seen doc text)
    ∙ ap (option_map (λ seen. seen.refusal)) (first_is_seen (rules_of doc) text) ∙ first_of_outcome (rules_of doc) text _ (refusal_of doc text)
