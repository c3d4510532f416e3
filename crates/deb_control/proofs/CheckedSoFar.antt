-- What is known of a file whose first paragraphs were given, and what an answer after them says.
use Rattle.deb_control.proofs.Common.{◌≡◌, ℕ, ◌+◌, List, [], ◌∷◌, ◌++◌, length, map, Option, None, Some, Result, Ok, Err, IfOk, IfNone, sym, ap, ◌∙◌, subst, arith, length-map, read_failures_after, Fault, Refused, Memory, Read, Write, Refusal, TakesNoMore, cursor_state, file_limit, taken_none, reach_limit, checked_state, Checked, Entries, Doc, value_text, ValueMeaning, SpellsValue, value_law, IfRefused, IfCutOff, HasParagraphs, Passing, CheckedState, CheckedMoment, HasChecked, GivesEnd, AnswersChecked, Checks, ChecksOn, rules_of, refusal_of, IsAllOf, outcome, body_under, FitsChecked, GivesPassing, all_pass, map-append}
use Rattle.deb_control.proofs.Accepting.{accepted-from_none, outcome-accepted}
use Rattle.deb_control.proofs.Checks.{counted-err}
use Rattle.deb_control.proofs.DocumentRules.{document_rules}
use Rattle.deb_control.proofs.FollowedParagraphs.{follow-all, next-all, outcome-from_end, outcome-from_refusal, passed-all}

-- a reader without an error goes on
pub goes_on : (doc : Doc) (before : CheckedMoment) (answer : Result (Option Passing) Fault) (after : CheckedMoment) → before.state.fault ≡ None → ChecksOn doc before answer after → Checks doc before answer after
goes_on doc before answer after sound checks = subst (λ fault. IfNone fault (Checks doc before answer after)) sound checks.goes

-- and has none after an answer that is no error
pub sound_on : (doc : Doc) (before : CheckedMoment) (given : Option Passing) (after : CheckedMoment) → before.state.fault ≡ None → ChecksOn doc before (Ok given) after → after.state.fault ≡ None
sound_on doc before given after sound checks = subst (λ fault. IfNone fault (after.state.fault ≡ None)) sound checks.keeps

pub failed_on : (doc : Doc) (before : CheckedMoment) (fault : Fault) (after : CheckedMoment) → before.state.fault ≡ None → ChecksOn doc before (Err fault) after → after.state.fault ≡ Some fault
failed_on doc before fault after sound checks = subst (λ kept. IfNone kept (after.state.fault ≡ Some fault)) sound checks.keeps

-- A file that has only these paragraphs is accepted with them.
pub is_all_of : (doc : Doc) (text : List ℕ) (before : List Entries) → outcome (rules_of doc) text ≡ record { passed = before; refusal = None } → IsAllOf doc text before
is_all_of doc text before is =
    let found = accepted-from_none ValueMeaning (SpellsValue doc) value_text (value_law doc) (rules_of doc) (document_rules doc) text (ap (λ o. o.refusal) is) in
    record {
      meaning = found.0;
      accepted = found.1;
      bodies = ap (λ o. o.passed) (sym (outcome-accepted ValueMeaning (SpellsValue doc) value_text (value_law doc) (rules_of doc) (document_rules doc) text found.0 found.1) ∙ is);
    }

-- It has a meaning of so many.
pub has_paragraphs : (doc : Doc) (text : List ℕ) (before : List Entries) (n : ℕ) → outcome (rules_of doc) text ≡ record { passed = before; refusal = None } → length before ≡ n → HasParagraphs doc text n
has_paragraphs doc text before n is counted =
    let all = is_all_of doc text before is in
    record {
      meaning = all.meaning;
      accepted = all.accepted;
      count = sym (length-map all.meaning (map (body_under value_text))) ∙ ap length all.bodies ∙ counted;
    }

-- where all that were answered before pass
pub count_all : {doc : Doc} {text : List ℕ} (before : List Entries) {state : CheckedState} {left : Option (List ℕ)} → FitsChecked doc text (all_pass before) state left → state.count ≡ length before
count_all before fits = fits.counted ∙ ap length (passed-all before)

pub again_all : {doc : Doc} {text : List ℕ} {given : Passing} {new : CheckedState} {left : Option (List ℕ)} (before : List Entries) → (gives : GivesPassing doc text (all_pass before) given new left) → FitsChecked doc text (all_pass (before ++ gives.entries ∷ [])) new left
again_all {doc} {text} {new} {left} before gives = subst (λ l. FitsChecked doc text l new left) (sym (map-append (λ e. Ok e) before (gives.entries ∷ []))) gives.again

pub outcome_at_end : (doc : Doc) (text : List ℕ) (before : List Entries) {state new : CheckedState} {left after : Option (List ℕ)} → FitsChecked doc text (all_pass before) state left → GivesEnd doc text (all_pass before) new after → outcome (rules_of doc) text ≡ record { passed = before; refusal = None }
outcome_at_end doc text before fits end = outcome-from_end (rules_of doc) text before (follow-all (rules_of doc) text [] before fits.given) (sym (next-all (rules_of doc) text before) ∙ end.answer)

-- The paragraphs that were given are all.
pub all_checked : (doc : Doc) (text : List ℕ) (state new : CheckedState) (left left_after : Option (List ℕ)) (count : ℕ) (checked : HasChecked doc text state left) → state.count ≡ count → GivesEnd doc text (all_pass checked.before) new left_after → HasParagraphs doc text count
all_checked doc text state new left left_after count checked counted end =
    has_paragraphs doc text checked.before count (outcome_at_end doc text checked.before checked.fits end) (sym (count_all checked.before checked.fits) ∙ counted)

-- where none was given before, those that are counted are all
pub counted_all : (doc : Doc) (text : List ℕ) (r : Result ℕ Fault) → IfOk r (λ n. HasParagraphs doc text (0 + n)) → IfOk r (HasParagraphs doc text)
counted_all doc text (Ok n) has = subst (HasParagraphs doc text) (omega arith) has
counted_all doc text (Err fault) has = tt

-- of a file that fits no more was taken than its limit and one piece
pub has_taken : (checked : Checked) (doc : Doc) (text : List ℕ) (left : Option (List ℕ)) → HasChecked doc text (checked_state checked) left → TakesNoMore text file_limit left
has_taken checked doc text left has =
    let p = checked.paragraphs in
    taken_none text has.fits.passed (cursor_state p.cursor) p.overlong_len p.finished _ p.fault left has.fits.fits (reach_limit _ p.reach)

-- a refusal after them is the file's, and they are all that passes
pub refused_behind : (T : Type 0) (doc : Doc) (text : List ℕ) (state new : CheckedState) (left left_after : Option (List ℕ)) (fault : Fault) (checked : HasChecked doc text state left) → AnswersChecked doc text (all_pass checked.before) (Err fault) new left_after → IfRefused {T = T} (Err fault) (λ refusal. outcome (rules_of doc) text ≡ record { passed = checked.before; refusal = Some refusal })
refused_behind T doc text state new left left_after (Refused refusal) checked answer = outcome-from_refusal (rules_of doc) text checked.before refusal (follow-all (rules_of doc) text [] checked.before checked.fits.given) (sym (next-all (rules_of doc) text checked.before) ∙ answer)
refused_behind T doc text state new left left_after Memory checked answer = tt
refused_behind T doc text state new left left_after Read checked answer = tt
refused_behind T doc text state new left left_after Write checked answer = tt

-- a fact for a refusal gives another
pub refused_then : (T : Type 0) (P Q : Refusal → Type 0) (fault : Fault) → ((refusal : Refusal) → P refusal → Q refusal) → IfRefused {T = T} (Err fault) P → IfRefused {T = T} (Err fault) Q
refused_then T P Q (Refused refusal) f h = f refusal h
refused_then T P Q Memory f h = tt
refused_then T P Q Read f h = tt
refused_then T P Q Write f h = tt

pub refusal_behind : (T : Type 0) (doc : Doc) (text : List ℕ) (state new : CheckedState) (left left_after : Option (List ℕ)) (fault : Fault) (checked : HasChecked doc text state left) → AnswersChecked doc text (all_pass checked.before) (Err fault) new left_after → IfRefused {T = T} (Err fault) (λ refusal. refusal_of doc text ≡ Some refusal)
refusal_behind T doc text state new left left_after fault checked answer =
    refused_then T (λ refusal. outcome (rules_of doc) text ≡ record { passed = checked.before; refusal = Some refusal }) (λ refusal. refusal_of doc text ≡ Some refusal) fault
    (λ refusal is. ap (λ o. o.refusal) is) (refused_behind T doc text state new left left_after fault checked answer)

-- a call that answers an error has the count of the source that the error gives
pub counted_on : (T : Type 0) (doc : Doc) (before : CheckedMoment) (fault : Fault) (after : CheckedMoment) (n : ℕ) → Checks doc before (Err fault) after → before.source.failures ≡ n → after.source.failures ≡ read_failures_after {T = T} n (Err fault)
counted_on T doc before fault after n checks same = checks.counted ∙ ap (λ k. read_failures_after {T = Option Passing} k (Err fault)) same ∙ counted-err (Option Passing) T n fault

-- a fact for out of memory or a failed read
pub cut_off : (T : Type 0) (fault : Fault) (P : Type 0) → P → IfCutOff {T = T} (Err fault) P
cut_off T (Refused refusal) P h = tt
cut_off T Memory P h = h
cut_off T Read P h = h
cut_off T Write P h = tt

-- what a call answers of the file, and how much was taken of it by then
pub answers_on : {doc : Doc} {text : List ℕ} {before after : CheckedMoment} {answer : Result (Option Passing) Fault} (has : HasChecked doc text before.state before.source.bytes) → before.state.fault ≡ None → ChecksOn doc before answer after → AnswersChecked doc text (all_pass has.before) answer after.state after.source.bytes
answers_on {text} has sound checks = (goes_on _ _ _ _ sound checks).answers text (all_pass has.before) has.fits

-- an answer that is no error leaves the first paragraphs given
pub checked_on : (doc : Doc) (text : List ℕ) (before : List Entries) (given : Option Passing) (new : CheckedState) (left : Option (List ℕ)) → AnswersChecked doc text (all_pass before) (Ok given) new left → HasChecked doc text new left
checked_on doc text before None new left ends = record { before = before; fits = ends.again }
checked_on doc text before (Some given) new left gives = record { before = before ++ gives.entries ∷ []; fits = again_all before gives }
