-- The lines of the paragraph at which a document is refused are those that were judged last.
use Rattle.deb_control.proofs.Common.{◌≡◌, ℕ, ◌==◌, ◌&&◌, not, Bool, true, false, cond, List, length, Option, None, Result, Ok, Err, IfNone, IfOk, sym, ap, ◌∙◌, subst, Fault, Refused, Memory, Read, Write, advance_answer, State, passed_count, is_single, Doc, rules_of, IfRefused, Paragraph, Answered, passed_in}
use Rattle.deb_syntax.specs.Judged.{ShowsJudged, judged_behind}
use Rattle.deb_control.specs.Refused.{lines_given}
use Rattle.deb_control.proofs.Checks.{has_some-is}

-- what holds without an error holds where there is none
pub without_error : (fault : Option Fault) (P : Type 0) → fault ≡ None → IfNone fault P → P
without_error fault P none h = subst (λ f. IfNone f P) none h

pub of_refusal : {T : Type 0} (result : Result T Fault) (P : Type 0) → P → IfRefused result (λ _. P)
of_refusal (Ok a) P p = tt
of_refusal (Err (Refused refusal)) P p = p
of_refusal (Err Memory) P p = tt
of_refusal (Err Read) P p = tt
of_refusal (Err Write) P p = tt

pub of_ok : {T : Type 0} (result : Result T Fault) (P : Type 0) → P → IfOk result (λ _. P)
of_ok (Ok a) P p = p
of_ok (Err fault) P p = tt

-- an answer that there is a paragraph, or none, shows what was judged
pub shown_by_answer : (text : List ℕ) (count : ℕ) (state : State) (found : Bool) (last : Option Paragraph) → ShowsJudged text count (advance_answer state (Ok found)) last → last ≡ judged_behind text count
shown_by_answer text count state true last shows = shows
shown_by_answer text count state false last shows = shows

module _ (doc : Doc) (text : List ℕ) (answered : List Answered) (count : ℕ) (counted : count ≡ length (passed_in answered)) where
  -- where a paragraph may follow
  module _ (may : (is_single doc && not (count == 0)) ≡ false) (passed : List ℕ) (paragraphs : passed_count passed ≡ length answered) where
    pub lines_are : (last : Option Paragraph) → last ≡ judged_behind text (passed_count passed) → last ≡ lines_given (rules_of doc) text answered
    lines_are last is =
        is ∙ ap (judged_behind text) paragraphs
        ∙ ap (λ t. cond t None (judged_behind text (length answered))) (sym (ap (λ t. is_single doc && t) (has_some-is (passed_in answered) count counted) ∙ may))

    pub lines_refused : (T : Type 0) (fault : Fault) (last : Option Paragraph) → ShowsJudged text (passed_count passed) (Err fault) last → IfRefused {T = T} (Err fault) (λ _. last ≡ lines_given (rules_of doc) text answered)
    lines_refused T (Refused refusal) last shows = lines_are last shows
    lines_refused T Memory last shows = tt
    lines_refused T Read last shows = tt
    lines_refused T Write last shows = tt

  -- where each further one is one too many
  pub lines_none : (is_single doc && not (count == 0)) ≡ true → (last : Option Paragraph) → last ≡ None → last ≡ lines_given (rules_of doc) text answered
  lines_none complete last none = none ∙ ap (λ t. cond t None (judged_behind text (length answered))) (sym (ap (λ t. is_single doc && t) (has_some-is (passed_in answered) count counted) ∙ complete))
