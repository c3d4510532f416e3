-- The items of a stream, one after another: those that pass, and the refusals of the others.
use Rattle.std.proofs.Common.{◌≡◌, ℕ, ◌+◌, ◌&&◌, Bool, true, false, List, [], ◌∷◌, ◌++◌, length, drop, slice_get, IfSome, Option, None, Some, Result, Ok, Err, refl, sym, ap, ap₂, ◌∙◌, append_assoc, arith}
use Rattle.std.proofs.lemmas.List.{length_push}
use Rattle.deb_base.specs.Bodies.{file_limit, paragraph_limit}
use Rattle.deb_base.specs.declared.doc.Doc.{Doc}
use Rattle.deb_base.specs.declared.fault.Fault.TheVariants.{Refused}
use Rattle.deb_base.specs.declared.refusal.Refusal.{Refusal}
use Rattle.deb_syntax.specs.Answers.{line_beyond, paragraphs_within}
use Rattle.deb_syntax.specs.Lines.{Paragraph}
use Rattle.deb_syntax.specs.Meaning.{Entries}
use Rattle.deb_control.specs.AllRefusals.{passed_among, passed_with}
use Rattle.deb_control.specs.Checking.{CheckedState, FitsChecked}
use Rattle.deb_control.specs.Documents.{rules_of}
use Rattle.deb_control.specs.Refused.{lines_given}
use Rattle.deb_control.specs.Refusals.{Answered, answer_behind, line_behind, next_after, next_given, passed_in}
use Rattle.deb_control.specs.Resuming.{FitsRefused, resumes}
use Rattle.deb_control.specs.Rules.{Rules}
use Rattle.deb_control.specs.Streams.{CheckedItem, CheckedStream, is_end_under, item_of, refusals_after, refusals_in, stream_after, stream_behind_under, stream_given, with_answer, with_item}
use Rattle.deb_control.proofs.FollowedParagraphs.{drop_one, never_behind_all, passed-push, refused-push}
use Rattle.deb_control.proofs.StreamEnds.{goes_on_after}
use Rattle.deb_select.specs.AcceptedWalks.{after_items}
use Rattle.deb_select.specs.Accepting.{passed_items, paragraph_of, with_passed}
use Rattle.deb_select.proofs.Selecting.{at_front}

pub refusals_in-append : (xs ys : List CheckedItem) (end : Option Refusal) → refusals_in (xs ++ ys) end ≡ refusals_in xs None ++ refusals_in ys end
refusals_in-append [] ys end = refl
refusals_in-append (x ∷ xs) ys end = go x.bodies (refusals_in-append xs ys end)
  where
    go : (r : Result Entries Refusal) → refusals_in (xs ++ ys) end ≡ refusals_in xs None ++ refusals_in ys end → refusals_after r (refusals_in (xs ++ ys) end) ≡ refusals_after r (refusals_in xs None) ++ refusals_in ys end
    go (Ok entries) rest = rest
    go (Err refusal) rest = ap (λ l. refusal ∷ l) rest

pub passed_items-append : (xs ys : List CheckedItem) → passed_items (xs ++ ys) ≡ passed_items xs ++ passed_items ys
passed_items-append [] ys = refl
passed_items-append (x ∷ xs) ys = go x.bodies (passed_items-append xs ys)
  where
    go : (r : Result Entries Refusal) → passed_items (xs ++ ys) ≡ passed_items xs ++ passed_items ys → with_passed (paragraph_of x) r (passed_items (xs ++ ys)) ≡ with_passed (paragraph_of x) r (passed_items xs) ++ passed_items ys
    go (Ok entries) rest = ap (λ l. (paragraph_of x, entries) ∷ l) rest
    go (Err refusal) rest = rest

pub passed-counted : (items : List CheckedItem) → passed_among items ≡ length (passed_items items)
passed-counted [] = refl
passed-counted (x ∷ xs) = go x.bodies (passed-counted xs)
  where
    go : (r : Result Entries Refusal) → passed_among xs ≡ length (passed_items xs) → passed_with r (passed_among xs) ≡ length (with_passed (paragraph_of x) r (passed_items xs))
    go (Ok entries) rest = omega (arith, rest)
    go (Err refusal) rest = rest

-- one item more
pub after-push : (items : List CheckedItem) (item : CheckedItem) (more : CheckedStream) → after_items items (with_item item more) ≡ after_items (items ++ item ∷ []) more
after-push items item more = ap (λ l. record { items = l; end = more.end }) (sym (append_assoc items (item ∷ []) more.items))

-- the next item of a stream is the next paragraph, if that passes
module _ (rules : Rules) (text : List ℕ) (k : ℕ) (before : List Entries) (entries : Entries) (p : Paragraph) (at : slice_get (paragraphs_within text) k ≡ Some p) (passes : next_after rules text k before ≡ Ok (Some entries)) where
  abbrev beyond : Option ℕ
  beyond = line_beyond 1 file_limit text

  abbrev n : ℕ
  n = line_behind text

  pub passed_at : stream_after rules text k before ≡ with_item (item_of p (Ok entries)) (stream_after rules text (k + 1) (before ++ entries ∷ []))
  passed_at = go (drop k (paragraphs_within text)) refl
    where
      same : (q : Paragraph) → slice_get (paragraphs_within text) k ≡ Some q → q ≡ p
      same q is = cc

      go : (left : List Paragraph) → drop k (paragraphs_within text) ≡ left → stream_after rules text k before ≡ with_item (item_of p (Ok entries)) (stream_after rules text (k + 1) (before ++ entries ∷ []))
      go [] here = absurd (never_behind_all rules beyond n before entries (ap (answer_behind rules beyond n before) (sym here) ∙ passes))
      go (q ∷ left) here =
          ap (stream_behind_under paragraph_limit file_limit rules beyond n before) here
          ∙ ap (λ a. with_answer (is_end_under paragraph_limit rules q) q before a (λ passed. stream_behind_under paragraph_limit file_limit rules beyond n passed left))
          (ap (answer_behind rules beyond n before) (sym here) ∙ passes)
          ∙ ap (λ ps. with_item (item_of q (Ok entries)) (stream_behind_under paragraph_limit file_limit rules beyond n (before ++ entries ∷ []) ps))
          (ap (drop 1) (sym here) ∙ drop_one k (paragraphs_within text))
          ∙ ap (λ x. with_item (item_of x (Ok entries)) (stream_after rules text (k + 1) (before ++ entries ∷ []))) (same q (at_front (paragraphs_within text) k q left here))

-- the same after these answers
pub passed_given : (doc : Doc) (text : List ℕ) (answered : List Answered) (entries : Entries) (p : Paragraph) → slice_get (paragraphs_within text) (length answered) ≡ Some p → next_given (rules_of doc) text answered ≡ Ok (Some entries)
    → stream_given (rules_of doc) text answered ≡ with_item (item_of p (Ok entries)) (stream_given (rules_of doc) text (answered ++ Ok entries ∷ []))
passed_given doc text answered entries p at next =
    passed_at (rules_of doc) text (length answered) (passed_in answered) entries p at next
    ∙ ap (with_item (item_of p (Ok entries))) (ap₂ (stream_after (rules_of doc) text) (sym (length_push answered (Ok entries))) (sym (passed-push answered entries)))

-- and where the next one is refused, and the stream goes on
pub refused_given : (doc : Doc) (text : List ℕ) (answered : List Answered) (refusal : Refusal) → next_given (rules_of doc) text answered ≡ Err refusal → resumes doc (Some (Refused refusal)) (lines_given (rules_of doc) text answered) ≡ true
    → (p : Paragraph) × (stream_given (rules_of doc) text answered ≡ with_item (item_of p (Err refusal)) (stream_given (rules_of doc) text (answered ++ Err refusal ∷ [])))
refused_given doc text answered refusal next goes =
    let on = goes_on_after doc text (length answered) (passed_in answered) refusal next goes in (
      on.0,
      on.1 ∙ ap (with_item (item_of on.0 (Err refusal))) (ap₂ (stream_after (rules_of doc) text) (sym (length_push answered (Err refusal))) (sym (refused-push answered refusal))),
    )

-- a reader that can go on has passed what is refused
pub past_refused : (doc : Doc) (text : List ℕ) (answered : List Answered) (refusal : Refusal) (state : CheckedState) (left : Option (List ℕ)) (lines : Option Paragraph) → resumes doc (Some (Refused refusal)) lines ≡ true → IfSome lines (λ _. FitsRefused doc text answered (Refused refusal) state left) → FitsChecked doc text (answered ++ Err refusal ∷ []) state left
past_refused doc text answered refusal state left None goes fits = absurd (none _ goes)
  where
    none : (t : Bool) → (t && false) ≡ true → ⊥
    none true is = cc
    none false is = cc
past_refused doc text answered refusal state left (Some p) goes fits = fits
