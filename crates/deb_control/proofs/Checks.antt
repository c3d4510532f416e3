-- What a call of a reader of checked paragraphs says, from what its reader of paragraphs says.
use Rattle.deb_base.specs.Bodies.{file_limit}
use Rattle.deb_control.proofs.Common.{◌≡◌, inl, inr, ℕ, ◌+◌, ◌<◌, ◌≤◌, ◌==◌, ◌&&◌, not, Bool, true, false, cond, leb, List, [], ◌∷◌, ◌++◌, length, is_some, option_map, Option, None, Some, Result, Ok, Err, IfOk, IfErr, IfNone, IfSome, MatchResult, IsTrue, IsSome, ◌↔◌, refl, sym, ap, ◌∙◌, subst, arith, length-append, ne_eqb, false≢true, and_parts, leb-true, read_failures_after, IsReadersFault, RefusedOrMemory, NoParagraph, TooManyParagraphs, Fault, Refused, Memory, Read, Write, Refusal, TakesNoMore, Seen, next_answer, next_begin, are_numbered, paragraphs_of, Entries, advance_answer, State, Fits, passed_count, GivesNone, Answers, AnswersBegin, Moment, Advances, Begins, is_single, Doc, paragraph_text, file_text, Passing, CheckedMoment, FitsChecked, AnswersChecked, IsRefusalOfDocument, IfRefused, Checks, ChecksOn, seen_given, seen_in, current_answer, seen_last, passing_seen, text_built, rules_of, end_answer, given_answer, seen_found, AddsPassing, RefusesSeen, has_some, answer_of_seen, next_given, line_behind, Answered, passed_in, Totals}
use Rattle.deb_control.proofs.FollowedParagraphs.{given-push, passed-push}
use Rattle.deb_control.proofs.NextChecked.{next_after-seen, next_after-second, next_after-last, next_after-refused, bytes-with, next_after-passes, next_after-unbuilt, next_after-too_long}
use Rattle.deb_control.proofs.RefusalCodes.{built-code, readers_fault}

pub file_limit_is : file_limit ≡ 4294967295
unfolding file_limit
file_limit_is = refl

pub few-totals : (given : Totals) → given.paragraphs ≤ file_limit + 1
few-totals given = omega (arith, given.few, given.within, file_limit_is)

-- what was found gives the answer
pub none_found : (state : State) (found : Bool) → state.current ≡ None → advance_answer state (Ok found) ≡ Ok None
none_found state true none = ap Ok none
none_found state false none = refl

pub one_found : (state : State) (found : Bool) (seen : Seen) → state.current ≡ Some seen → (IsTrue found ↔ IsSome state.current) → advance_answer state (Ok found) ≡ Ok (Some seen)
one_found state true seen some found = ap Ok some
one_found state false seen some found = absurd (false≢true (found.1 (subst IsSome (sym some) refl)))

-- a paragraph was given, and none was
pub has_some-is : (before : List Entries) (count : ℕ) → count ≡ length before → has_some before ≡ not (count == 0)
has_some-is [] count is = rw is refl
has_some-is (entries ∷ before) count is = rw (ne_eqb count 0 (λ e. omega (arith, is, e))) refl

none-test : (before : List Entries) (count : ℕ) → count ≡ length before → (count == 0) ≡ not (has_some before)
none-test [] count is = ap (λ n. n == 0) is
none-test (entries ∷ before) count is = ne_eqb count 0 (λ e. omega (arith, is, e))

pub counted-err : (A B : Type 0) (n : ℕ) (fault : Fault) → read_failures_after {T = A} n (Err fault) ≡ read_failures_after {T = B} n (Err fault)
counted-err A B n (Refused refusal) = refl
counted-err A B n Memory = refl
counted-err A B n Read = refl
counted-err A B n Write = refl

-- a reader of checked paragraphs, and one of paragraphs, at a moment
abbrev pub checked_at : Option Seen → Option Fault → State → ℕ → ℕ → Option (List ℕ) → ℕ → CheckedMoment
checked_at shown kept reader count bytes left failures = record { state = record { reader = reader; count = count; bytes = bytes; current = shown; fault = kept }; source = record { bytes = left; failures = failures } }

abbrev pub reader_at : State → Option (List ℕ) → ℕ → Moment
reader_at reader left failures = record { state = reader; source = record { bytes = left; failures = failures } }

module _ (doc : Doc) (shown shown_now : Option Seen) (kept kept_now : Option Fault) (reader new : State) (count bytes : ℕ) (left after : Option (List ℕ)) (failures failures_after : ℕ) (few : count ≤ file_limit + 1) where
  abbrev here : CheckedMoment
  here = checked_at shown kept reader count bytes left failures

  abbrev there : ℕ → ℕ → CheckedMoment
  there count_now bytes_now = checked_at shown_now kept_now new count_now bytes_now after failures_after

  -- an error of the reader of paragraphs
  checks-err : (A : Type 0) (fault : Fault) → ((text : List ℕ) (answered : List Answered) → FitsChecked doc text answered here.state left → (refusal : Refusal) → fault ≡ Refused refusal → next_given (rules_of doc) text answered ≡ Err refusal) → ((text passed : List ℕ) → Fits text passed reader left → TakesNoMore text file_limit after) → failures_after ≡ read_failures_after {T = A} failures (Err fault) → IsReadersFault fault IsRefusalOfDocument → ((text : List ℕ) (answered : List Answered) → FitsChecked doc text answered here.state left → (refusal : Refusal) → fault ≡ Refused refusal → new.current ≡ seen_given (rules_of doc) text answered) → Checks doc here (Err fault) (there count bytes)
  checks-err A fault refused taken counted is current = record {
    answers = λ text answered fits. go fault text answered (refused text answered fits) is;
    taken = λ text answered fits. taken text fits.passed fits.fits;
    counted = counted ∙ counted-err A (Option Passing) failures fault;
    fault = is;
    count = refl;
    few = few;
    finished = tt;
    refused = λ text answered fits. shows fault text answered (current text answered fits);
  }
    where
      shows : (f : Fault) (text : List ℕ) (answered : List Answered) → ((refusal : Refusal) → f ≡ Refused refusal → new.current ≡ seen_given (rules_of doc) text answered) → IfRefused {T = Option Passing} (Err f) (λ _. new.current ≡ seen_given (rules_of doc) text answered)
      shows (Refused refusal) text answered h = h refusal refl
      shows Memory text answered h = tt
      shows Read text answered h = tt
      shows Write text answered h = tt

      go : (f : Fault) (text : List ℕ) (answered : List Answered) → ((refusal : Refusal) → f ≡ Refused refusal → next_given (rules_of doc) text answered ≡ Err refusal) → IsReadersFault f IsRefusalOfDocument → AnswersChecked doc text answered (Err f) (there count bytes).state after
      go (Refused refusal) text answered h ok = h refusal refl
      go Memory text answered h ok = tt
      go Read text answered h ok = tt
      go Write text answered h ok = absurd ok

  -- no further paragraph
  checks-none : ((text : List ℕ) (answered : List Answered) → FitsChecked doc text answered here.state left → (passed : List ℕ) → GivesNone text passed new after → passed_count passed ≡ length answered → next_given (rules_of doc) text answered ≡ Ok None) → ((text passed : List ℕ) → Fits text passed reader left → GivesNone text passed new after) → ((text passed : List ℕ) → Fits text passed reader left → TakesNoMore text file_limit after) → failures_after ≡ failures → new.finished ≡ true → Checks doc here (Ok None) (there count bytes)
  checks-none none gives taken counted ends = record {
    answers = λ text answered fits.
        let all = gives text fits.passed fits.fits in
        record {
          answer = none text answered fits fits.passed all fits.paragraphs;
          again = record {
            passed = text;
            fits = all.again;
            given = fits.given;
            paragraphs = ap length all.passes ∙ fits.paragraphs;
            counted = fits.counted;
            bytes = fits.bytes;
          };
        };
    taken = λ text answered fits. taken text fits.passed fits.fits;
    counted = counted;
    fault = tt;
    count = omega arith;
    few = few;
    finished = ends;
    refused = λ text answered fits. tt;
  }

  -- what the reader of paragraphs says of the next one, where it may follow
  module _ (may : (is_single doc && not (count == 0)) ≡ false) where
    few_of : (text : List ℕ) (answered : List Answered) → FitsChecked doc text answered here.state left → ((rules_of doc).single && has_some (passed_in answered)) ≡ false
    few_of text answered fits = ap (λ t. is_single doc && t) (has_some-is (passed_in answered) count fits.counted) ∙ may

    -- what it shows is what is seen of the next one
    shows_seen : (text : List ℕ) (answered : List Answered) → FitsChecked doc text answered here.state left → (answer : Result (Option Seen) Refusal) → next_answer text (length answered) ≡ answer → new.current ≡ seen_in answer → new.current ≡ seen_given (rules_of doc) text answered
    shows_seen text answered fits answer at current = current ∙ ap seen_in (sym at) ∙ ap (λ t. cond t None (seen_in (next_answer text (length answered)))) (sym (few_of text answered fits))

    pub checks-advance_err : (fault : Fault) → Advances (reader_at reader left failures) (Err fault) (reader_at new after failures_after) → Checks doc here (Err fault) (there count bytes)
    checks-advance_err fault advances = checks-err (Option Seen) fault
        (λ text answered fits refusal is.
        let answers : Answers text fits.passed (Err (Refused refusal)) new after = subst (λ f. Answers text fits.passed (Err f) new after) is (advances.answers text fits.passed fits.fits) in
        let at : next_answer text (length answered) ≡ Err refusal = ap (next_answer text) (sym fits.paragraphs) ∙ answers in
        next_after-seen (rules_of doc) text (length answered) (passed_in answered) (few_of text answered fits) ∙ ap (answer_of_seen (rules_of doc) (line_behind text) (passed_in answered)) at)
        advances.taken advances.counted (readers_fault fault advances.fault)
        (λ text answered fits refusal is.
        let answers : Answers text fits.passed (Err (Refused refusal)) new after = subst (λ f. Answers text fits.passed (Err f) new after) is (advances.answers text fits.passed fits.fits) in
        shows_seen text answered fits (Err refusal) (ap (next_answer text) (sym fits.paragraphs) ∙ answers) advances.current)

    -- none follows: one is missing, or none is
    pub checks-end : (totals : Totals) (lines : ℕ) (given : Passing) (answer : Result (Option Seen) Fault) (result : Result Bool Fault) → totals.paragraphs ≡ count → answer ≡ Ok None → Advances (reader_at reader left failures) answer (reader_at new after failures_after) → (new.finished ≡ true → lines ≡ new.lines) → result ≡ end_answer doc totals lines → Checks doc here (given_answer given result) (there count bytes)
    checks-end totals lines given answer result same none goes numbered ends =
        subst (λ r. Checks doc here (given_answer given r) (there count bytes)) (sym ends)
        (go (is_single doc && (totals.paragraphs == 0)) refl)
      where
        advances : Advances (reader_at reader left failures) (Ok None) (reader_at new after failures_after)
        advances = subst (λ a. Advances (reader_at reader left failures) a (reader_at new after failures_after)) none goes

        behind : (text : List ℕ) (answered : List Answered) → FitsChecked doc text answered here.state left → (passed : List ℕ) → GivesNone text passed new after → passed_count passed ≡ length answered → next_given (rules_of doc) text answered ≡ cond (is_single doc && (totals.paragraphs == 0)) (Err (record { code = NoParagraph; line = line_behind text })) (Ok None)
        behind text answered fits passed all counts =
            next_after-seen (rules_of doc) text (length answered) (passed_in answered) (few_of text answered fits)
            ∙ ap (answer_of_seen (rules_of doc) (line_behind text) (passed_in answered)) (ap (next_answer text) (sym counts) ∙ all.answer)
            ∙ ap (λ t. cond (is_single doc && t) (Err (record { code = NoParagraph; line = line_behind text })) (Ok None)) (sym (none-test (passed_in answered) totals.paragraphs (same ∙ fits.counted)))

        go : (t : Bool) → (is_single doc && (totals.paragraphs == 0)) ≡ t → Checks doc here (given_answer given (cond t (Err (Refused (record { code = NoParagraph; line = lines + 1 }))) (Ok false))) (there count bytes)
        go false e = checks-none (λ text answered fits passed all counts. behind text answered fits passed all counts ∙ ap (λ t. cond t (Err (record { code = NoParagraph; line = line_behind text })) (Ok None)) e) advances.answers advances.taken advances.counted advances.finished
        go true e = record {
          answers = λ text answered fits.
              let all = advances.answers text fits.passed fits.fits in
              let line : line_behind text ≡ lines + 1 = omega (arith, all.again.lines, numbered all.finished) in
              behind text answered fits fits.passed all fits.paragraphs
              ∙ ap (λ t. cond t (Err (record { code = NoParagraph; line = line_behind text })) (Ok None)) e
              ∙ ap (λ n. Err (record { code = NoParagraph; line = n })) line;
          taken = λ text answered fits. advances.taken text fits.passed fits.fits;
          counted = advances.counted;
          fault = record { least = omega arith; most = omega arith; line = omega arith };
          count = refl;
          few = few;
          finished = tt;
          refused = λ text answered fits. let all = advances.answers text fits.passed fits.fits in shows_seen text answered fits (Ok None) (ap (next_answer text) (sym fits.paragraphs) ∙ all.answer) advances.current;
        }

    -- the next one is refused
    pub checks-unpassed : (totals : Totals) (seen : Seen) (fault : Fault) → are_numbered seen.first seen.fields ≡ true → totals.paragraphs ≡ count → totals.bytes ≡ bytes → Advances (reader_at reader left failures) (Ok (Some seen)) (reader_at new after failures_after) → RefusedOrMemory fault (RefusesSeen doc seen totals) → Checks doc here (Err fault) (there count bytes)
    checks-unpassed totals seen Memory numbered counted is advances refused = record { answers = λ text answered fits. tt; taken = λ text answered fits. advances.taken text fits.passed fits.fits; counted = advances.counted; fault = tt; count = refl; few = few; finished = tt; refused = λ text answered fits. tt }
    checks-unpassed totals seen Read numbered counted is advances refused = absurd refused
    checks-unpassed totals seen Write numbered counted is advances refused = absurd refused
    checks-unpassed totals seen (Refused refusal) numbered counted is advances refused = record {
      answers = λ text answered fits.
          let next = advances.answers text fits.passed fits.fits in
          let at : next_answer text (length answered) ≡ Ok (Some seen) = ap (next_answer text) (sym fits.paragraphs) ∙ next.answer in
          elim refused [
            | inl unbuilt ↦ next_after-unbuilt (rules_of doc) text (length answered) (passed_in answered) seen (few_of text answered fits) at refusal unbuilt
            | inr long ↦
                let more = bytes-with (passed_in answered) long.entries totals.paragraphs totals.bytes (counted ∙ fits.counted) (is ∙ fits.bytes) in
                next_after-too_long (rules_of doc) text (length answered) (passed_in answered) seen (few_of text answered fits) at long.entries long.built (subst (λ n. file_limit < n) more long.long) ∙ ap Err (sym long.is)
          ];
      taken = λ text answered fits. advances.taken text fits.passed fits.fits;
      counted = advances.counted;
      fault = elim refused [
        | inl unbuilt ↦ built-code doc seen refusal numbered unbuilt
        | inr long ↦ subst IsRefusalOfDocument (sym long.is) (record { least = omega arith; most = omega arith; line = leb-true 1 seen.first (and_parts (leb 1 seen.first) _ numbered).0 })
      ];
      count = refl;
      few = few;
      finished = tt;
      refused = λ text answered fits. let next = advances.answers text fits.passed fits.fits in shows_seen text answered fits (Ok (Some seen)) (ap (next_answer text) (sym fits.paragraphs) ∙ next.answer) advances.current;
    }

    -- the next one passes
    pub checks-passes : (totals totals_now : Totals) (seen : Seen) → totals.paragraphs ≡ count → totals.bytes ≡ bytes → Advances (reader_at reader left failures) (Ok (Some seen)) (reader_at new after failures_after) → (adds : AddsPassing doc seen totals totals_now) → totals_now.paragraphs ≤ file_limit + 1 → Checks doc here (Ok (Some (record { seen = seen; text = paragraph_text adds.entries }))) (there totals_now.paragraphs totals_now.bytes)
    checks-passes totals totals_now seen counted is advances adds few_now = record {
      answers = λ text answered fits.
          let next = advances.answers text fits.passed fits.fits in
          let at : next_answer text (length answered) ≡ Ok (Some seen) = ap (next_answer text) (sym fits.paragraphs) ∙ next.answer in
          let more : totals_now.bytes ≡ length (file_text (passed_in answered ++ adds.entries ∷ [])) = adds.bytes ∙ bytes-with (passed_in answered) adds.entries totals.paragraphs totals.bytes (counted ∙ fits.counted) (is ∙ fits.bytes) in
          let passes : next_given (rules_of doc) text answered ≡ Ok (Some adds.entries) = next_after-passes (rules_of doc) text (length answered) (passed_in answered) seen (few_of text answered fits) at adds.entries adds.built (subst (λ n. n ≤ file_limit) more adds.within) in
          record {
            entries = adds.entries;
            answer = passes;
            seen = at;
            built = adds.built;
            written = refl;
            again = record {
              passed = next.passed_now;
              fits = next.again;
              given = given-push (rules_of doc) text [] answered (Ok adds.entries) fits.given passes;
              paragraphs = ap length next.passes ∙ length-append (paragraphs_of fits.passed) (next.paragraph ∷ []) ∙ ap (λ n. n + 1) fits.paragraphs ∙ sym (length-append answered (Ok adds.entries ∷ []));
              counted = adds.paragraphs ∙ ap (λ n. n + 1) (counted ∙ fits.counted) ∙ sym (length-append (passed_in answered) (adds.entries ∷ [])) ∙ ap length (sym (passed-push answered adds.entries));
              bytes = more ∙ ap (λ l. length (file_text l)) (sym (passed-push answered adds.entries));
            };
          };
      taken = λ text answered fits. advances.taken text fits.passed fits.fits;
      counted = advances.counted;
      fault = tt;
      count = adds.paragraphs ∙ ap (λ n. n + 1) counted;
      few = few_now;
      finished = tt;
      refused = λ text answered fits. tt;
    }

    -- the next one is checked
    says-passed : (totals totals_now : Totals) (seen : Seen) (result : Result Bool Fault) → are_numbered seen.first seen.fields ≡ true → totals.paragraphs ≡ count → totals.bytes ≡ bytes → Advances (reader_at reader left failures) (Ok (Some seen)) (reader_at new after failures_after) → IfOk result (λ gives. (gives ≡ true) × AddsPassing doc seen totals totals_now) → IfErr result (λ fault. RefusedOrMemory fault (RefusesSeen doc seen totals)) → IfErr result (λ fault. totals_now ≡ totals) → Checks doc here (given_answer (passing_seen doc seen) result) (there totals_now.paragraphs totals_now.bytes)
    says-passed totals totals_now seen (Ok true) numbered counted is advances ok fault same =
        subst (λ text. Checks doc here (Ok (Some (record { seen = seen; text = text }))) (there totals_now.paragraphs totals_now.bytes)) (sym (ap text_built ok.1.built))
        (checks-passes totals totals_now seen counted is advances ok.1 (few-totals totals_now))
    says-passed totals totals_now seen (Ok false) numbered counted is advances ok fault same = absurd (false≢true ok.0)
    says-passed totals totals_now seen (Err f) numbered counted is advances ok fault same =
        let at : (totals_now.paragraphs ≡ count) × (totals_now.bytes ≡ bytes) = (ap (λ t. t.paragraphs) same ∙ counted, ap (λ t. t.bytes) same ∙ is) in
        rw (at.0, at.1) (checks-unpassed totals seen f numbered counted is advances fault)

    pub says-found : (totals totals_now : Totals) (seen : Seen) (found : Option Seen) (answer : Result (Option Seen) Fault) (result : Result Bool Fault) → are_numbered seen.first seen.fields ≡ true → totals.paragraphs ≡ count → totals.bytes ≡ bytes → found ≡ Some seen → answer ≡ Ok (Some seen) → Advances (reader_at reader left failures) answer (reader_at new after failures_after) → IfOk result (λ gives. (gives ≡ true) × AddsPassing doc seen totals totals_now) → IfErr result (λ fault. RefusedOrMemory fault (RefusesSeen doc seen totals)) → IfErr result (λ fault. totals_now ≡ totals) → Checks doc here (given_answer (passing_seen doc (seen_found found)) result) (there totals_now.paragraphs totals_now.bytes)
    says-found totals totals_now seen found answer result numbered counted is one some goes ok fault same =
        subst (λ f. Checks doc here (given_answer (passing_seen doc (seen_found f)) result) (there totals_now.paragraphs totals_now.bytes)) (sym one)
        (says-passed totals totals_now seen result numbered counted is (subst (λ a. Advances (reader_at reader left failures) a (reader_at new after failures_after)) some goes) ok fault same)

  -- what it says of the beginning of one that is one too many
  module _ (complete : (is_single doc && not (count == 0)) ≡ true) where
    single : is_single doc ≡ true
    single = (and_parts (is_single doc) (not (count == 0)) complete).0

    second : (text : List ℕ) (answered : List Answered) → FitsChecked doc text answered here.state left → has_some (passed_in answered) ≡ true
    second text answered fits = has_some-is (passed_in answered) count fits.counted ∙ (and_parts (is_single doc) (not (count == 0)) complete).1

    -- nothing is seen of it
    shows_none : (text : List ℕ) (answered : List Answered) → FitsChecked doc text answered here.state left → new.current ≡ None → new.current ≡ seen_given (rules_of doc) text answered
    shows_none text answered fits none = none ∙ rw (single, second text answered fits) refl

    pub checks-begins_err : (fault : Fault) → Begins (reader_at reader left failures) (Err fault) (reader_at new after failures_after) → Checks doc here (Err fault) (there count bytes)
    checks-begins_err fault begins = checks-err (Option ℕ) fault
        (λ text answered fits refusal is.
        let answers : AnswersBegin text fits.passed (Err (Refused refusal)) new after = subst (λ f. AnswersBegin text fits.passed (Err f) new after) is (begins.answers text fits.passed fits.fits) in
        next_after-refused (rules_of doc) text (length answered) (passed_in answered) single (second text answered fits) refusal (ap (next_begin text) (sym fits.paragraphs) ∙ answers))
        begins.taken begins.counted (readers_fault fault begins.fault)
        (λ text answered fits refusal is. shows_none text answered fits begins.current)

    pub checks-begins_none : Begins (reader_at reader left failures) (Ok None) (reader_at new after failures_after) → Checks doc here (Ok None) (there count bytes)
    checks-begins_none begins = checks-none
        (λ text answered fits passed all counts. next_after-last (rules_of doc) text (length answered) (passed_in answered) single (second text answered fits) (ap (next_begin text) (sym counts) ∙ all.begin))
        begins.answers begins.taken begins.counted begins.finished

    pub checks-begins_some : (line : ℕ) → Begins (reader_at reader left failures) (Ok (Some line)) (reader_at new after failures_after) → Checks doc here (Err (Refused (record { code = TooManyParagraphs; line = line }))) (there count bytes)
    checks-begins_some line begins = record {
      answers = λ text answered fits.
          let gives = begins.answers text fits.passed fits.fits in
          next_after-second (rules_of doc) text (length answered) (passed_in answered) single (second text answered fits) line (ap (next_begin text) (sym fits.paragraphs) ∙ gives.begin);
      taken = λ text answered fits. begins.taken text fits.passed fits.fits;
      counted = begins.counted;
      fault = record { least = omega arith; most = omega arith; line = begins.line };
      count = refl;
      few = few;
      finished = tt;
      refused = λ text answered fits. shows_none text answered fits begins.current;
    }

-- where a paragraph was found, it is the one that is given
pub says-current : (found : Option Seen) (gives : Bool) (fault : Option Fault) → fault ≡ None → gives ≡ is_some found → seen_last fault found ≡ cond gives (Some (seen_found found)) None
says-current None gives fault none is = rw (none, is) refl
says-current (Some seen) gives fault none is = rw (none, is) refl

-- the answer by the one that was given last
pub answers-current : (doc : Doc) (before after : CheckedMoment) (given : Seen) (current : Option Seen) (result : Result Bool Fault) → IfOk result (λ gives. current ≡ cond gives (Some given) None) → ChecksOn doc before (given_answer (passing_seen doc given) result) after → ChecksOn doc before (current_answer doc current result) after
answers-current doc before after given current (Ok true) is h = subst (λ c. ChecksOn doc before (Ok (option_map (passing_seen doc) c)) after) (sym is) h
answers-current doc before after given current (Ok false) is h = h
answers-current doc before after given current (Err fault) is h = h

-- a call of a reader without an error
pub checks_on : (doc : Doc) (before after : CheckedMoment) (given : Passing) (result : Result Bool Fault) → before.state.fault ≡ None → Checks doc before (given_answer given result) after → MatchResult result (λ _. after.state.fault ≡ None) (λ f. after.state.fault ≡ Some f) → ChecksOn doc before (given_answer given result) after
checks_on doc before after given result none checks held =
    let answer : Result (Option Passing) Fault = given_answer given result in
    record {
      goes = subst (λ f. IfNone f (Checks doc before answer after)) (sym none) checks;
      keeps = subst (λ f. IfNone f (MatchResult answer (λ _. after.state.fault ≡ None) (λ g. after.state.fault ≡ Some g))) (sym none) (keeps result held);
      repeats = subst (λ f. IfSome f (λ g. (answer ≡ Err g) × (after ≡ before))) (sym none) tt;
    }
  where
    keeps : (r : Result Bool Fault) → MatchResult r (λ _. after.state.fault ≡ None) (λ f. after.state.fault ≡ Some f) → MatchResult (given_answer given r) (λ _. after.state.fault ≡ None) (λ f. after.state.fault ≡ Some f)
    keeps (Ok true) h = h
    keeps (Ok false) h = h
    keeps (Err f) h = h

-- out of memory after a paragraph was found that passes: it isn't given
unfailed : (doc : Doc) (before after : CheckedMoment) (answer : Result (Option Passing) Fault) (given : Option Passing) → answer ≡ Ok given → ChecksOn doc before answer after → before.state.fault ≡ None
unfailed doc before after answer given is call = go before.state.fault call.repeats
  where
    go : (f : Option Fault) → IfSome f (λ g. (answer ≡ Err g) × (after ≡ before)) → f ≡ None
    go None h = refl
    go (Some fault) h = let e : answer ≡ Err fault = h.0 in absurd (cc)

pub checks-memory : (doc : Doc) (before found after : CheckedMoment) (given : Passing) → ChecksOn doc before (Ok (Some given)) found → before.state.count ≤ file_limit + 1 → after.source ≡ found.source → after.state.count ≡ before.state.count → after.state.fault ≡ Some Memory → ChecksOn doc before (Err Memory) after
checks-memory doc before found after given goes few source count failed =
    let none = unfailed doc before found (Ok (Some given)) (Some given) refl goes in
    let checks = subst (λ f. IfNone f (Checks doc before (Ok (Some given)) found)) none goes.goes in
    checks_on doc before after given (Err Memory) none (record {
      answers = λ text front fits. tt;
      taken = λ text front fits. subst (λ s. TakesNoMore text file_limit s.bytes) (sym source) (checks.taken text front fits);
      counted = ap (λ s. s.failures) source ∙ checks.counted;
      fault = tt;
      count = count;
      few = subst (λ n. n ≤ file_limit + 1) (sym count) few;
      finished = tt;
      refused = λ text front fits. tt;
    }) failed

-- and of one with an error, which repeats it
pub says_again : (doc : Doc) (moment : CheckedMoment) (fault : Fault) → moment.state.fault ≡ Some fault → ChecksOn doc moment (Err fault) moment
says_again doc moment fault is =
    let answer : Result (Option Passing) Fault = Err fault in
    let same : answer ≡ Err fault = refl in
    let stays : moment ≡ moment = refl in
    record {
      goes = subst (λ f. IfNone f (Checks doc moment answer moment)) (sym is) tt;
      keeps = subst (λ f. IfNone f (moment.state.fault ≡ Some fault)) (sym is) tt;
      repeats = subst (λ f. IfSome f (λ g. (answer ≡ Err g) × (moment ≡ moment))) (sym is) (same, stays);
    }
