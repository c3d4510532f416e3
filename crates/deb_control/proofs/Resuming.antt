-- What is known after a paragraph that is refused, and how the reader goes on.
use Rattle.deb_control.proofs.Common.{◌≡◌, ◌+◌, Bool, true, false, List, [], ◌∷◌, ◌++◌, ℕ, length, Option, None, Some, IfSome, IfNone, Result, Ok, Err, IfErr, IsFalse, IsSome, IsTrue, MatchResult, Memory, Read, Refused, Write, advance_answer, false≢true, state_of, refl, sym, ap, ◌∙◌, subst, length-append, Fault, Doc, Paragraph, paragraphs_of, State, rules_of, file_text, Answered, Passing, given_answer, Checks, CheckedMoment, FitsChecked}
use Rattle.deb_syntax.specs.Resuming.{HasPassed, is_resumable}
use Rattle.deb_control.specs.Resuming.{FitsRefused, is_inside, is_none_or_refusal, refuses_paragraph}
use Rattle.deb_syntax.specs.declared.paragraphs.Paragraphs.{Paragraphs}
use Rattle.deb_control.proofs.FollowedParagraphs.{given-push, refused-push}

-- After an error a paragraph whose lines were judged has passed.
pub fits_refused : (doc : Doc) (before after : CheckedMoment) (given : Passing) (result : Result Bool Fault) (text : List ℕ) (answered : List Answered) → Checks doc before (given_answer given result) after → (fits : FitsChecked doc text answered before.state before.source.bytes) → (last : Option Paragraph) → IfErr result (λ _. after.state.bytes ≡ before.state.bytes)
    → IfSome last (λ p. HasPassed text fits.passed p after.state.reader after.source.bytes) → IfErr result (λ fault. IfSome last (λ _. FitsRefused doc text answered fault after.state after.source.bytes))
fits_refused doc before after given (Ok gives) text answered checks fits last same passed = tt
fits_refused doc before after given (Err fault) text answered checks fits None same passed = tt
fits_refused doc before after given (Err Memory) text answered checks fits (Some p) same passed = tt
fits_refused doc before after given (Err Read) text answered checks fits (Some p) same passed = tt
fits_refused doc before after given (Err Write) text answered checks fits (Some p) same passed = tt
fits_refused doc before after given (Err (Refused refusal)) text answered checks fits (Some p) same passed = record {
  passed = passed.front ++ passed.fresh;
  fits = passed.again;
  given = given-push (rules_of doc) text [] answered (Err refusal) fits.given (checks.answers text answered fits);
  paragraphs = ap length passed.passes ∙ length-append (paragraphs_of fits.passed) (p ∷ []) ∙ ap (λ n. n + 1) fits.paragraphs ∙ sym (length-append answered (Err refusal ∷ []));
  counted = checks.count ∙ fits.counted ∙ ap length (sym (refused-push answered refusal));
  bytes = same ∙ fits.bytes ∙ ap (λ l. length (file_text l)) (sym (refused-push answered refusal));
}

-- where nothing was judged
pub if_error : (P : Paragraph → Type 0) (last : Option Paragraph) → last ≡ None → IfSome last P
if_error P None none = tt
if_error P (Some p) none = absurd cc

-- after any error
pub any_error : {T : Type 0} {P : Fault → Type 0} (result : Result T Fault) → ((fault : Fault) → P fault) → IfErr result P
any_error (Ok value) p = tt
any_error (Err fault) p = p fault

-- after an error that leaves the totals as they were
pub unchanged_error : {T P Q : Type 0} (result : Result T Fault) → (Q → P) → IfErr result (λ _. Q) → IfErr result (λ _. P)
unchanged_error (Ok value) f q = tt
unchanged_error (Err fault) f q = f q

-- the errors of the reader of paragraphs after a refusal
pub is_inside-none : (fault : Fault) (inside : Option Fault) → inside ≡ None → IsTrue (is_inside (Some fault) inside)
is_inside-none (Refused refusal) inside none = ap is_none_or_refusal none
is_inside-none Memory inside none = refl
is_inside-none Read inside none = refl
is_inside-none Write inside none = refl

pub is_inside-same : (fault : Fault) (inside : Option Fault) → inside ≡ Some fault → IsTrue (is_inside (Some fault) inside)
is_inside-same (Refused refusal) inside same = ap is_none_or_refusal same
is_inside-same Memory inside same = refl
is_inside-same Read inside same = refl
is_inside-same Write inside same = refl

pub error_inside : {T : Type 0} (result : Result T Fault) (inside : Option Fault) → inside ≡ None → IfErr result (λ fault. IsTrue (is_inside (Some fault) inside))
error_inside (Ok value) inside none = tt
error_inside (Err fault) inside none = is_inside-none fault inside none

-- an answer that is no error leaves none
pub found_sound : (before : Option Fault) (new : State) (found : Bool) → before ≡ None → IfNone before (MatchResult (advance_answer new (Ok found)) (λ _. new.fault ≡ None) (λ fault. new.fault ≡ Some fault)) → new.fault ≡ None
found_sound before new true none keeps = subst (λ o. IfNone o (new.fault ≡ None)) none keeps
found_sound before new false none keeps = subst (λ o. IfNone o (new.fault ≡ None)) none keeps

-- what a refused paragraph says
pub refused-judged : (fault : Option Fault) (last : Option Paragraph) → refuses_paragraph fault last ≡ true → IsSome last
refused-judged (Some (Refused refusal)) (Some p) refused = refl
refused-judged (Some (Refused refusal)) None refused = absurd (false≢true refused)
refused-judged (Some Memory) last refused = absurd (false≢true refused)
refused-judged (Some Read) last refused = absurd (false≢true refused)
refused-judged (Some Write) last refused = absurd (false≢true refused)
refused-judged None last refused = absurd (false≢true refused)

pub refused-inside : (fault : Option Fault) (last : Option Paragraph) (inside : Option Fault) → refuses_paragraph fault last ≡ true → IsTrue (is_inside fault inside) → IsTrue (is_none_or_refusal inside)
refused-inside (Some (Refused refusal)) last inside refused is = is
refused-inside (Some Memory) last inside refused is = absurd (false≢true refused)
refused-inside (Some Read) last inside refused is = absurd (false≢true refused)
refused-inside (Some Write) last inside refused is = absurd (false≢true refused)
refused-inside None last inside refused is = absurd (false≢true refused)

-- the reader of paragraphs without its error
pub gone_on : (old new : Paragraphs) (result : Bool) (fault : Option Fault) (last : Option Paragraph) → (state_of old).fault ≡ fault → IsTrue (is_none_or_refusal fault) → IsSome last → result ≡ is_resumable fault last → (IsTrue result → state_of new ≡ record (state_of old) { fault = None }) → (IsFalse result → new ≡ old) → state_of new ≡ record (state_of old) { fault = None }
gone_on old new result None last is sound judged told on same = ap state_of (same told) ∙ ap (λ f. record (state_of old) { fault = f }) is
gone_on old new result (Some (Refused refusal)) (Some p) is sound judged told on same = on told
gone_on old new result (Some (Refused refusal)) None is sound judged told on same = absurd cc
gone_on old new result (Some Memory) last is sound judged told on same = absurd (false≢true sound)
gone_on old new result (Some Read) last is sound judged told on same = absurd (false≢true sound)
gone_on old new result (Some Write) last is sound judged told on same = absurd (false≢true sound)
