-- What a reader of refusals has given of a file after one run of lines more.
use Rattle.std.proofs.Common.{IfSome, ◌≡◌, ◌≤◌, ◌&&◌, ℕ, ◌+◌, ◌++◌, Bool, true, false, List, [], ◌∷◌, length, Option, None, Some, Result, Ok, Err, refl, sym, ap, ap₂, ◌∙◌, subst, append_assoc, append-nil, arith, length-append}
use Rattle.std.proofs.lemmas.List.{length-map, length_push, map-append}
use Rattle.deb_base.specs.Bodies.{Line, file_limit}
use Rattle.deb_base.specs.Reading.{TakesNoMore}
use Rattle.deb_base.specs.declared.doc.Doc.{Doc}
use Rattle.deb_base.specs.declared.fault.Fault.{Fault}
use Rattle.deb_base.specs.declared.fault.Fault.TheVariants.{Refused, Memory, Read, Write}
use Rattle.deb_base.specs.declared.refusal.Refusal.{Refusal}
use Rattle.deb_syntax.specs.Answers.{Seen}
use Rattle.deb_syntax.specs.Judged.{line_judged}
use Rattle.deb_syntax.specs.Lines.{Paragraph}
use Rattle.deb_control.specs.AllRefusals.{passed_among, passed_of, refusals_of}
use Rattle.deb_control.specs.Checking.{CheckedMoment, CheckedState, ChecksOn, FitsChecked, GivesEnd, GivesPassing, Passing}
use Rattle.deb_control.specs.CheckedStates.{checked_state, doc_read, lines_checked, refused_last}
use Rattle.deb_control.specs.Documents.{rules_of}
use Rattle.deb_control.specs.GivenRefusals.{AreFirst, Awaits, FindsNext, GivesAll, GivesNext, GoesOn, HasAll, HasGiven, IsLastOf, Remains, Stands, StandsAt}
use Rattle.deb_control.specs.Positions.{position_after}
use Rattle.deb_control.specs.Refusals.{Answered, next_given, passed_in}
use Rattle.deb_control.specs.Refused.{lines_given, seen_given, seen_refused}
use Rattle.deb_control.specs.Resuming.{FitsRefused, resumes}
use Rattle.deb_control.specs.SeenRefusals.{SeenRefusal, refusal_seen_given, refusals_alone, refusals_seen, refusals_seen_after, refusals_seen_given, seen_in_stream}
use Rattle.deb_control.specs.Streams.{item_of, stream_after, with_item}
use Rattle.deb_control.specs.declared.checked.Checked.{Checked}
use Rattle.deb_control.specs.declared.refusals.Position.TheVariants.{At, End}
use Rattle.deb_control.specs.declared.refusals.Refusals.{Refusals}
use Rattle.deb_control.specs.declared.summary.Summary.{Summary}
use Rattle.deb_control.proofs.CheckedSoFar.{goes_on}
use Rattle.deb_control.proofs.FewRefusals.{few_seen}
use Rattle.deb_control.proofs.FollowedParagraphs.{passed-push, refused-push}
use Rattle.deb_control.proofs.SeenRefusals.{alone_are}
use Rattle.deb_control.proofs.StreamEnds.{ends_the_stream, goes_on_after}
use Rattle.deb_control.proofs.StreamLaws.{end_next, passed_next}

pub takes_none : (text : List ℕ) → TakesNoMore text file_limit (Some text)
takes_none text = record { rest = text; told = refl; few = omega arith }

-- the first refusals, by what is left
pub are_first : (doc : Doc) (text : List ℕ) (done more : List SeenRefusal) → refusals_seen doc text ≡ done ++ more → AreFirst doc text done
are_first doc text done more all = record {
  more = more;
  all = all;
  refusals = sym (alone_are doc text) ∙ ap refusals_alone all ∙ map-append (λ seen. seen.refusal) done more;
}

plus_none : (n : ℕ) → n ≡ 0 + n
plus_none n = omega arith

-- nothing was looked at
pub awaits_all : (doc : Doc) (text : List ℕ) (state : CheckedState) (left : Option (List ℕ)) → FitsChecked doc text [] state left → Awaits doc text state left 0 []
awaits_all doc text state left fits = record {
  answered = [];
  fits = fits;
  remains = record { seen = refl; total = plus_none (passed_of doc text); counted = refl };
}

-- a paragraph passes
pub awaits_passing : (doc : Doc) (text : List ℕ) (state new : CheckedState) (left after : Option (List ℕ)) (passed : ℕ) (done : List SeenRefusal) (given : Passing) → (awaits : Awaits doc text state left passed done) → GivesPassing doc text awaits.answered given new after → Awaits doc text new after (passed + 1) done
awaits_passing doc text state new left after passed done given awaits gives =
    let rules = rules_of doc in
    let answered = awaits.answered in
    let before = passed_in answered in
    let now = answered ++ Ok gives.entries ∷ [] in
    let remains = awaits.remains in
    let next = passed_next rules text (length answered) before gives.entries gives.answer in
    let count = sym (length_push answered (Ok gives.entries)) in
    let passes = sym (passed-push answered gives.entries) in
    record {
      answered = now;
      fits = gives.again;
      remains = record {
        seen = remains.seen ∙ ap (λ l. done ++ l) (ap (seen_in_stream rules text (length answered) before) next.1 ∙ ap₂ (refusals_seen_after rules text) count passes);
        total = omega (arith, remains.total, ap (λ s. passed_among s.items) (next.1 ∙ ap (with_item (item_of next.0 (Ok gives.entries))) (ap₂ (stream_after rules text) count passes)));
        counted = omega (arith, remains.counted, ap length (passed-push answered gives.entries), length_push before gives.entries);
      };
    }

-- none follows
pub all_given : (doc : Doc) (text : List ℕ) (state new : CheckedState) (left after : Option (List ℕ)) (passed : ℕ) (done : List SeenRefusal) → (awaits : Awaits doc text state left passed done) → GivesEnd doc text awaits.answered new after → HasAll doc text passed done
all_given doc text state new left after passed done awaits end =
    let answered = awaits.answered in
    let ends = end_next (rules_of doc) text (length answered) (passed_in answered) end.answer in
    record {
      seen = awaits.remains.seen ∙ ap (λ s. done ++ seen_in_stream (rules_of doc) text (length answered) (passed_in answered) s) ends ∙ append-nil done;
      total = omega (arith, awaits.remains.total, ap (λ s. passed_among s.items) ends);
    }

-- a run is refused, and that is the next refusal
next_seen : (doc : Doc) (text : List ℕ) (answered : List Answered) (refusal : Refusal) → next_given (rules_of doc) text answered ≡ Err refusal → (more : List SeenRefusal) × (refusals_seen_given (rules_of doc) text answered ≡ refusal_seen_given (rules_of doc) text answered refusal ∷ more)
next_seen doc text answered refusal refused = go (resumes doc (Some (Refused refusal)) (lines_given (rules_of doc) text answered)) refl
  where
    go : (t : Bool) → resumes doc (Some (Refused refusal)) (lines_given (rules_of doc) text answered) ≡ t → (more : List SeenRefusal) × (refusals_seen_given (rules_of doc) text answered ≡ refusal_seen_given (rules_of doc) text answered refusal ∷ more)
    go false stays = ([], ap (seen_in_stream (rules_of doc) text (length answered) (passed_in answered)) (ends_the_stream doc text (length answered) (passed_in answered) refusal refused stays))
    go true goes = (
      refusals_seen_after (rules_of doc) text (length answered + 1) (passed_in answered),
      ap (seen_in_stream (rules_of doc) text (length answered) (passed_in answered)) (goes_on_after doc text (length answered) (passed_in answered) refusal refused goes).1,
    )

first_with : (doc : Doc) (text : List ℕ) (answered : List Answered) (passed : ℕ) (done : List SeenRefusal) (refusal : Refusal) → Remains doc text answered passed done → next_given (rules_of doc) text answered ≡ Err refusal → (more : List SeenRefusal) × (refusals_seen doc text ≡ (done ++ refusal_seen_given (rules_of doc) text answered refusal ∷ []) ++ more)
first_with doc text answered passed done refusal remains refused =
    let next = next_seen doc text answered refusal refused in
    (next.0, remains.seen ∙ ap (λ l. done ++ l) next.1 ∙ sym (append_assoc done (refusal_seen_given (rules_of doc) text answered refusal ∷ []) next.0))

-- the refusals that were given before it are fewer than the greatest count
pub few_done : (doc : Doc) (text : List ℕ) (answered : List Answered) (passed : ℕ) (done : List SeenRefusal) (refusal : Refusal) → Remains doc text answered passed done → next_given (rules_of doc) text answered ≡ Err refusal → length done ≤ file_limit
few_done doc text answered passed done refusal remains refused =
    let next = first_with doc text answered passed done refusal remains refused in
    let seen = refusal_seen_given (rules_of doc) text answered refusal in
    omega (arith, few_seen doc text, ap length next.1, length-append (done ++ seen ∷ []) next.0, length-append done (seen ∷ []))

-- it stands at that run
past_lines : (doc : Doc) (text : List ℕ) (answered : List Answered) (fault : Fault) (refusal : Refusal) (lines : Option Paragraph) (new : CheckedState) (after : Option (List ℕ)) → fault ≡ Refused refusal → IfSome lines (λ _. FitsRefused doc text answered fault new after) → IfSome lines (λ _. FitsChecked doc text (answered ++ Err refusal ∷ []) new after)
past_lines doc text answered fault refusal None new after is fits = tt
past_lines doc text answered fault refusal (Some p) new after is fits = subst (λ f. FitsRefused doc text answered f new after) is fits

pub stands_at : (doc : Doc) (text : List ℕ) (state new : CheckedState) (left after : Option (List ℕ)) (passed : ℕ) (done : List SeenRefusal) (refusal : Refusal) (fault : Fault) (lines : Option Paragraph) → (awaits : Awaits doc text state left passed done) → next_given (rules_of doc) text awaits.answered ≡ Err refusal → new.fault ≡ Some (Refused refusal) → new.reader.current ≡ seen_given (rules_of doc) text awaits.answered → lines ≡ lines_given (rules_of doc) text awaits.answered → fault ≡ Refused refusal → IfSome lines (λ _. FitsRefused doc text awaits.answered fault new after)
    → StandsAt doc text refusal new lines after passed (done ++ refusal_seen_given (rules_of doc) text awaits.answered refusal ∷ [])
stands_at doc text state new left after passed done refusal fault lines awaits refused failed seen shown is past = record {
  front = done;
  answered = awaits.answered;
  remains = awaits.remains;
  refused = refused;
  fault = failed;
  seen = seen;
  shown = shown;
  past = past_lines doc text awaits.answered fault refusal lines new after is past;
  is = refl;
}

module _ (doc : Doc) (text : List ℕ) (refusal : Refusal) (state : CheckedState) (lines : Option Paragraph) (left : Option (List ℕ)) (passed : ℕ) (done : List SeenRefusal) (stands : StandsAt doc text refusal state lines left passed done) where
  same_there : resumes doc (Some (Refused refusal)) (lines_given (rules_of doc) text stands.answered) ≡ resumes doc (Some (Refused refusal)) lines
  same_there = ap (resumes doc (Some (Refused refusal))) (sym stands.shown)

  past_there : resumes doc (Some (Refused refusal)) lines ≡ true → FitsChecked doc text (stands.answered ++ Err refusal ∷ []) state left
  past_there goes = go lines goes stands.past
    where
      none : (t : Bool) → (t && false) ≡ true → ⊥
      none true is = cc
      none false is = cc

      go : (last : Option Paragraph) → resumes doc (Some (Refused refusal)) last ≡ true → IfSome last (λ _. FitsChecked doc text (stands.answered ++ Err refusal ∷ []) state left) → FitsChecked doc text (stands.answered ++ Err refusal ∷ []) state left
      go None goes fits = absurd (none _ goes)
      go (Some p) goes fits = fits

  -- the reader goes on after it
  pub goes_on_there : (new : CheckedState) → resumes doc (Some (Refused refusal)) lines ≡ true → ((answered : List Answered) → FitsChecked doc text answered state left → FitsChecked doc text answered new left) → Awaits doc text new left passed done
  goes_on_there new goes fits =
      let rules = rules_of doc in
      let answered = stands.answered in
      let before = passed_in answered in
      let now = answered ++ Err refusal ∷ [] in
      let remains = stands.remains in
      let seen = refusal_seen_given rules text answered refusal in
      let next = goes_on_after doc text (length answered) before refusal stands.refused (same_there ∙ goes) in
      let count = sym (length_push answered (Err refusal)) in
      let passes = sym (refused-push answered refusal) in
      record {
        answered = now;
        fits = fits now (past_there goes);
        remains = record {
          seen = remains.seen ∙ ap (λ l. stands.front ++ l) (ap (seen_in_stream rules text (length answered) before) next.1 ∙ ap (λ l. seen ∷ l) (ap₂ (refusals_seen_after rules text) count passes))
              ∙ sym (append_assoc stands.front (seen ∷ []) (refusals_seen_given rules text now)) ∙ ap (λ d. d ++ refusals_seen_given rules text now) (sym stands.is);
          total = omega (arith, remains.total, ap (λ s. passed_among s.items) (next.1 ∙ ap (with_item (item_of next.0 (Err refusal))) (ap₂ (stream_after rules text) count passes)));
          counted = remains.counted ∙ ap length passes;
        };
      }

  -- or it was the last one
  pub all_there : resumes doc (Some (Refused refusal)) lines ≡ false → HasAll doc text passed done
  all_there stays =
      let answered = stands.answered in
      let ends = ends_the_stream doc text (length answered) (passed_in answered) refusal stands.refused (same_there ∙ stays) in
      record {
        seen = stands.remains.seen ∙ ap (λ s. stands.front ++ seen_in_stream (rules_of doc) text (length answered) (passed_in answered) s) ends ∙ sym stands.is;
        total = omega (arith, stands.remains.total, ap (λ s. passed_among s.items) ends);
      }

  stands_first : AreFirst doc text done
  stands_first =
      let next = first_with doc text stands.answered passed stands.front refusal stands.remains stands.refused in
      are_first doc text done next.0 (next.1 ∙ ap (λ d. d ++ next.0) (sym stands.is))

-- ---- a reader of refusals and its parts

-- how much was taken after a call of the reader of checked paragraphs
pub taken_by : {doc : Doc} {before after : CheckedMoment} {answer : Result (Option Passing) Fault} {text : List ℕ} {passed : ℕ} {done : List SeenRefusal} → before.state.fault ≡ None → ChecksOn doc before answer after → (awaits : Awaits doc text before.state before.source.bytes passed done) → TakesNoMore text file_limit after.source.bytes
taken_by {text} sound checks awaits = (goes_on _ _ _ _ sound checks).taken text awaits.answered awaits.fits

-- a paragraph passes, and is counted
pub goes_passing : (doc : Doc) (text : List ℕ) (checked new : Checked) (summary : Summary) (left after : Option (List ℕ)) (done : List SeenRefusal) (given : Passing) (count : ℕ) → (goes : GoesOn doc text checked summary left done) → GivesPassing doc text goes.awaits.answered given (checked_state new) after → doc_read new ≡ doc_read checked → count ≡ summary.passed + 1 → GoesOn doc text new (record summary { passed = count }) after done
goes_passing doc text checked new summary left after done given count goes gives same counted = record {
  reads = same ∙ goes.reads;
  awaits = subst (λ n. Awaits doc text (checked_state new) after n done) (sym counted) (awaits_passing doc text (checked_state checked) (checked_state new) left after summary.passed done given goes.awaits gives);
  refused = goes.refused;
}

-- the paragraphs that passed are fewer than the greatest count
pub few_passed : (doc : Doc) (text : List ℕ) (checked : Checked) (summary : Summary) (left : Option (List ℕ)) (done : List SeenRefusal) → (goes : GoesOn doc text checked summary left done) → summary.passed ≡ (checked_state checked).count
few_passed doc text checked summary left done goes = goes.awaits.remains.counted ∙ sym goes.awaits.fits.counted

-- those that were given are the first ones, also with the one at which it is
pub goes_first : (doc : Doc) (text : List ℕ) (checked : Checked) (summary : Summary) (left : Option (List ℕ)) (done : List SeenRefusal) → GoesOn doc text checked summary left done → AreFirst doc text done
goes_first doc text checked summary left done goes = are_first doc text done _ goes.awaits.remains.seen

-- all were given, and the reader has answered so
pub gives_all : (doc : Doc) (text : List ℕ) (r : Refusals) (left : Option (List ℕ)) (done : List SeenRefusal) → r.position ≡ End → doc_read r.checked ≡ doc → AreFirst doc text done → TakesNoMore text file_limit left → r.summary.refused ≡ length done → HasAll doc text r.summary.passed done → GivesAll doc text r left done
gives_all doc text r left done ends reads first taken refused all =
    let refusals : refusals_of doc text ≡ refusals_alone done = sym (alone_are doc text) ∙ ap refusals_alone all.seen in
    record {
      given = record {
        first = first;
        refused = refused;
        taken = taken;
        reads = reads;
        stands = subst (λ position. Stands doc text position (checked_state r.checked) (lines_checked r.checked) left r.summary.passed done) (sym ends) all;
      };
      seen = all.seen;
      refusals = refusals;
      passed = all.total;
      refused = refused ∙ sym (length-map done (λ seen. seen.refusal)) ∙ ap length (sym refusals);
    }

-- what its parts find is what it gives
pub gives_found : (doc : Doc) (text : List ℕ) (r : Refusals) (left : Option (List ℕ)) (done : List SeenRefusal) (result : Result (Option Refusal) Fault) → r.position ≡ position_after result → doc_read r.checked ≡ doc → AreFirst doc text done → TakesNoMore text file_limit left → FindsNext doc text result r.checked r.summary left done → GivesNext doc text result r left done
gives_found doc text r left done (Ok (Some refusal)) stands reads first taken finds = record {
  seen = finds.seen;
  same = finds.same;
  given = record {
    first = stands_first doc text refusal _ _ left _ _ finds.stands;
    refused = finds.refused ∙ sym (length-append done (finds.seen ∷ []));
    taken = taken;
    reads = reads;
    stands = subst (λ position. Stands doc text position (checked_state r.checked) (lines_checked r.checked) left r.summary.passed (done ++ finds.seen ∷ [])) (sym stands) finds.stands;
  };
}
gives_found doc text r left done (Ok None) stands reads first taken finds = gives_all doc text r left done stands reads first taken finds.refused finds.all
gives_found doc text r left done (Err (Refused refusal)) stands reads first taken finds = finds
gives_found doc text r left done (Err Memory) stands reads first taken finds = first
gives_found doc text r left done (Err Read) stands reads first taken finds = first
gives_found doc text r left done (Err Write) stands reads first taken finds = finds

-- ---- after the refusal at which it is

module _ (doc : Doc) (text : List ℕ) (r : Refusals) (left : Option (List ℕ)) (done : List SeenRefusal) (refusal : Refusal) (at : r.position ≡ At refusal) (has : HasGiven doc text r left done) where
  stands_there : StandsAt doc text refusal (checked_state r.checked) (lines_checked r.checked) left r.summary.passed done
  stands_there = subst (λ position. Stands doc text position (checked_state r.checked) (lines_checked r.checked) left r.summary.passed done) at has.stands

  resumes_is : resumes (doc_read r.checked) (checked_state r.checked).fault (lines_checked r.checked) ≡ resumes doc (Some (Refused refusal)) (lines_checked r.checked)
  resumes_is = ap (λ d. resumes d (checked_state r.checked).fault (lines_checked r.checked)) has.reads ∙ ap (λ f. resumes doc f (lines_checked r.checked)) stands_there.fault

  -- it goes on
  pub goes_after : (new : Checked) → resumes (doc_read r.checked) (checked_state r.checked).fault (lines_checked r.checked) ≡ true → ((text : List ℕ) (answered : List Answered) (left : Option (List ℕ)) → FitsChecked (doc_read r.checked) text answered (checked_state r.checked) left → FitsChecked (doc_read r.checked) text answered (checked_state new) left) → doc_read new ≡ doc_read r.checked → GoesOn doc text new r.summary left done
  goes_after new goes fits same = record {
    reads = same ∙ has.reads;
    awaits = goes_on_there doc text refusal (checked_state r.checked) (lines_checked r.checked) left r.summary.passed done stands_there (checked_state new) (sym resumes_is ∙ goes)
        (λ answered. subst (λ d. FitsChecked d text answered (checked_state r.checked) left → FitsChecked d text answered (checked_state new) left) has.reads (fits text answered left));
    refused = has.refused;
  }

  -- or not
  pub ends_after : resumes (doc_read r.checked) (checked_state r.checked).fault (lines_checked r.checked) ≡ false → HasAll doc text r.summary.passed done
  ends_after stays = all_there doc text refusal (checked_state r.checked) (lines_checked r.checked) left r.summary.passed done stands_there (sym resumes_is ∙ stays)

  -- what is shown of it is the last of them
  pub last_shown : (line : Option Line) (seen : Option Seen) → line ≡ line_judged refusal.line (lines_checked r.checked) → seen ≡ refused_last (checked_state r.checked) → IsLastOf (record { refusal = refusal; line = line; seen = seen }) done
  last_shown line seen line_is seen_is =
      let stands = stands_there in
      let lines = line_is ∙ ap (line_judged refusal.line) stands.shown in
      let fields = seen_is ∙ ap (λ f. seen_refused f (checked_state r.checked).reader.current) stands.fault ∙ stands.seen in
      record {
        front = stands.front;
        is = stands.is ∙ ap (λ s. stands.front ++ s ∷ []) (sym (ap₂ (λ l s. record { refusal = refusal; line = l; seen = s }) lines fields));
      }
