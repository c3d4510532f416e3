-- The one invariant of a loop over the paragraphs of a file, and what it says when the reader answers.
use Rattle.deb_control.proofs.Common.{◌≡◌, ℕ, ◌+◌, ◌⊎◌, List, [], ◌∷◌, ◌++◌, length, map, Option, None, Some, Result, Ok, Err, IsTrue, refl, sym, ap, ◌∙◌, subst, arith, length-append, length-map, map-append, AllByRecursion, Shown, read_failures_after, IsReadersFault, Fault, Refusal, TakesNoMore, file_limit, Seen, next_answer, IsClosed, passed_count, Entries, Doc, checked_moment, checked_state, CheckedState, CheckedMoment, Checks, ChecksOn, FitsChecked, all_pass, IsRefusalOfDocument, Passing, is_judged, is_ok, next_checked, outcome, rules_of, refusal_of, IfRefused, HasParagraphs, Checked}
use Rattle.deb_control.specs.CheckedStates.{doc_read}
use Rattle.deb_control.specs.GivenParagraphs.{AreNext, HasShown, answered_seen, bodies_built, bodies_seen}
use Rattle.deb_control.proofs.CheckedSoFar.{counted_on, goes_on, has_paragraphs, outcome_at_end, refused_behind, refused_then, sound_on}
use Rattle.deb_control.proofs.FieldsRead.{all-push}
use Rattle.deb_control.proofs.FollowedParagraphs.{follow-all, next-all, outcome-starts}
use Rattle.deb_control.proofs.ReadAlone.{read-alone}

-- These paragraphs were given so far, so many, without a fault: they are the first ones of the file.
pub record ShownSoFar (doc : Doc) (source : Shown) (Holds : List Seen → Type 0) (checked : Checked) (now : Shown) (count : ℕ) : Type 0 where
  pub given : List Seen
  pub holds : Holds given
  pub numbered : length given ≡ count
  pub reads : doc_read checked ≡ doc
  pub sound : (checked_state checked).fault ≡ None
  pub counted : (checked_state checked).count ≡ count
  pub failures : now.failures ≡ source.failures
  pub files : (text : List ℕ) → source.bytes ≡ Some text → HasShown doc text given (checked_state checked) now.bytes

-- Nothing was read.
pub shows-none : {doc : Doc} {source : Shown} {checked : Checked} (Holds : List Seen → Type 0) → Holds [] → doc_read checked ≡ doc → (checked_state checked).fault ≡ None → (checked_state checked).count ≡ 0 → ((text : List ℕ) → FitsChecked doc text [] (checked_state checked) (Some text)) → ShownSoFar doc source Holds checked source 0
shows-none Holds holds reads sound counted fits = record {
  given = [];
  holds = holds;
  numbered = refl;
  reads = reads;
  sound = sound;
  counted = counted;
  failures = refl;
  files = λ text told. record { fits = rw told (fits text); next = tt; passing = tt };
}

-- one more follows
pub next-push : (text : List ℕ) (n : ℕ) (given : List Seen) (seen : Seen) → AreNext text n given → next_answer text (n + length given) ≡ Ok (Some seen) → AreNext text n (given ++ seen ∷ [])
next-push text n [] seen all one = (subst (λ k. next_answer text k ≡ Ok (Some seen)) (omega arith) one, tt)
next-push text n (first ∷ more) seen all one = (all.0, next-push text (n + 1) more seen all.1 (subst (λ k. next_answer text k ≡ Ok (Some seen)) (omega arith) one))

-- what was answered of them
pub answered-push : (doc : Doc) (given : List Seen) (seen : Seen) → answered_seen doc (given ++ seen ∷ []) ≡ answered_seen doc given ++ Ok (bodies_seen doc seen) ∷ []
answered-push doc given seen = ap all_pass (map-append (bodies_seen doc) given (seen ∷ [])) ∙ map-append (λ e. Ok e) (map (bodies_seen doc) given) (bodies_seen doc seen ∷ [])

pub answered-length : (doc : Doc) (given : List Seen) → length (answered_seen doc given) ≡ length given
answered-length doc given = length-map (map (bodies_seen doc) given) (λ e. Ok e) ∙ length-map given (bodies_seen doc)

-- A text whose paragraphs are all given, and pass; and one of which a front was read that has exactly these.
pub record ShownAll (doc : Doc) (text : List ℕ) (given : List Seen) : Type 0 where
  pub next : AreNext text 0 given
  pub passing : AllByRecursion (λ seen. IsTrue (is_judged doc seen)) given
  pub none : next_checked (rules_of doc) text (map (bodies_seen doc) given) ≡ Ok None
  pub is : outcome (rules_of doc) text ≡ record { passed = map (bodies_seen doc) given; refusal = None }

pub record ShownFront (doc : Doc) (text : List ℕ) (given : List Seen) : Type 0 where
  pub next : AreNext text 0 given
  pub passing : AllByRecursion (λ seen. IsTrue (is_judged doc seen)) given
  pub read : List ℕ
  pub behind : List ℕ
  pub whole : text ≡ read ++ behind
  pub closed : IsClosed read ⊎ (behind ≡ [])
  pub more : List Entries
  pub passed : (outcome (rules_of doc) text).passed ≡ map (bodies_seen doc) given ++ more
  pub all : passed_count read ≡ length (map (bodies_seen doc) given)
  pub alone : (outcome (rules_of doc) read).passed ≡ map (bodies_seen doc) given

-- and one that is refused after them
pub record ShownRefused (doc : Doc) (text : List ℕ) (given : List Seen) (refusal : Refusal) : Type 0 where
  pub next : AreNext text 0 given
  pub passing : AllByRecursion (λ seen. IsTrue (is_judged doc seen)) given
  pub is : outcome (rules_of doc) text ≡ record { passed = map (bodies_seen doc) given; refusal = Some refusal }

-- what was read of a text whose first paragraphs were given
front_shown : {doc : Doc} {text : List ℕ} {given : List Seen} {state : CheckedState} {left : Option (List ℕ)} → HasShown doc text given state left → ShownFront doc text given
front_shown {doc} {text} {given} {state} has =
    let fits = has.fits in
    let behind = fits.fits.overlong ++ (state.reader.unread ++ fits.fits.rest) in
    let paragraphs = fits.paragraphs ∙ length-map (map (bodies_seen doc) given) (λ e. Ok e) in
    let follow = follow-all (rules_of doc) text [] (map (bodies_seen doc) given) fits.given in
    let starts = outcome-starts (rules_of doc) text (map (bodies_seen doc) given) follow in
    record {
      next = has.next;
      passing = has.passing;
      read = fits.passed;
      behind = behind;
      whole = fits.fits.whole;
      closed = fits.fits.closed;
      more = starts.0;
      passed = starts.1;
      all = paragraphs;
      alone = read-alone (rules_of doc) text fits.passed behind (map (bodies_seen doc) given) fits.fits.whole paragraphs follow fits.fits.closed;
    }

module _ {doc : Doc} {source : Shown} {Holds : List Seen → Type 0} {checked : Checked} {now : Shown} {count : ℕ} (so_far : ShownSoFar doc source Holds checked now count) where
  pub shows-front : (text : List ℕ) → source.bytes ≡ Some text → ShownFront doc text so_far.given
  shows-front text told = front_shown (so_far.files text told)

  module _ {later : CheckedMoment} {answer : Result (Option Passing) Fault} (checks : ChecksOn (doc_read checked) (checked_moment checked now.bytes now.failures) answer later) where
    checks_doc : ChecksOn doc (checked_moment checked now.bytes now.failures) answer later
    checks_doc = subst (λ d. ChecksOn d (checked_moment checked now.bytes now.failures) answer later) so_far.reads checks

    pub goes : Checks doc (checked_moment checked now.bytes now.failures) answer later
    goes = goes_on _ _ _ _ so_far.sound checks_doc

    -- how much was taken of it
    pub shows-taken : (text : List ℕ) → source.bytes ≡ Some text → TakesNoMore text file_limit later.source.bytes
    shows-taken text told = goes.taken text (answered_seen doc so_far.given) (so_far.files text told).fits

  -- The file ends.
  module _ {later : CheckedMoment} (checks : ChecksOn (doc_read checked) (checked_moment checked now.bytes now.failures) (Ok None) later) where
    pub shows-end : (text : List ℕ) → source.bytes ≡ Some text → ShownAll doc text so_far.given
    shows-end text told =
        let has = so_far.files text told in
        let end = (goes checks).answers text (answered_seen doc so_far.given) has.fits in
        record {
          next = has.next;
          passing = has.passing;
          none = sym (next-all (rules_of doc) text (map (bodies_seen doc) so_far.given)) ∙ end.answer;
          is = outcome_at_end doc text (map (bodies_seen doc) so_far.given) has.fits end;
        }

    pub shows-paragraphs : (text : List ℕ) → source.bytes ≡ Some text → HasParagraphs doc text count
    shows-paragraphs text told =
        has_paragraphs doc text (map (bodies_seen doc) so_far.given) count (shows-end text told).is (length-map so_far.given (bodies_seen doc) ∙ so_far.numbered)

    pub shows-quiet : later.source.failures ≡ source.failures
    shows-quiet = (goes checks).counted ∙ so_far.failures

  -- The reader has a fault.
  module _ {later : CheckedMoment} (T : Type 0) (fault : Fault) (checks : ChecksOn (doc_read checked) (checked_moment checked now.bytes now.failures) (Err fault) later) where
    pub shows-refused : (text : List ℕ) → source.bytes ≡ Some text → IfRefused {T = T} (Err fault) (ShownRefused doc text so_far.given)
    shows-refused text told =
        let has = so_far.files text told in
        refused_then T _ (ShownRefused doc text so_far.given) fault (λ refusal is. record { next = has.next; passing = has.passing; is = is })
        (refused_behind T doc text (checked_state checked) later.state now.bytes later.source.bytes fault (record { before = map (bodies_seen doc) so_far.given; fits = has.fits }) ((goes checks).answers text (answered_seen doc so_far.given) has.fits))

    pub shows-refusal : (text : List ℕ) → source.bytes ≡ Some text → IfRefused {T = T} (Err fault) (λ refusal. refusal_of doc text ≡ Some refusal)
    shows-refusal text told = refused_then T (ShownRefused doc text so_far.given) (λ refusal. refusal_of doc text ≡ Some refusal) fault (λ refusal shown. ap (λ o. o.refusal) shown.is) (shows-refused text told)

    pub shows-failures : later.source.failures ≡ read_failures_after {T = T} source.failures (Err fault)
    shows-failures = counted_on T doc _ fault _ source.failures (goes checks) so_far.failures

    pub shows-fault : IsReadersFault fault IsRefusalOfDocument
    shows-fault = (goes checks).fault

  -- A paragraph follows.
  module _ {later : CheckedMoment} (given : Passing) (checks : ChecksOn (doc_read checked) (checked_moment checked now.bytes now.failures) (Ok (Some given)) later) where
    shown_next : (text : List ℕ) → source.bytes ≡ Some text → HasShown doc text (so_far.given ++ given.seen ∷ []) later.state later.source.bytes
    shown_next text told =
        let has = so_far.files text told in
        let gives = (goes checks).answers text (answered_seen doc so_far.given) has.fits in
        let bodies : gives.entries ≡ bodies_seen doc given.seen = ap bodies_built (sym gives.built) in
        record {
          fits = subst (λ l. FitsChecked doc text l later.state later.source.bytes)
              (ap (λ e. answered_seen doc so_far.given ++ Ok e ∷ []) bodies ∙ sym (answered-push doc so_far.given given.seen)) gives.again;
          next = next-push text 0 so_far.given given.seen has.next (subst (λ k. next_answer text k ≡ Ok (Some given.seen)) (omega (arith, answered-length doc so_far.given)) gives.seen);
          passing = all-push (λ seen. IsTrue (is_judged doc seen)) so_far.given given.seen has.passing (ap is_ok gives.built);
        }

    pub shows-front_next : (text : List ℕ) → source.bytes ≡ Some text → ShownFront doc text (so_far.given ++ given.seen ∷ [])
    shows-front_next text told = front_shown (shown_next text told)

  pub shows-next : {after : Checked} {later : Shown} (given : Passing) → ChecksOn (doc_read checked) (checked_moment checked now.bytes now.failures) (Ok (Some given)) (checked_moment after later.bytes later.failures) → doc_read after ≡ doc_read checked → {Now : List Seen → Type 0} → Now (so_far.given ++ given.seen ∷ []) → ShownSoFar doc source Now after later (count + 1)
  shows-next given checks same holds = record {
    given = so_far.given ++ given.seen ∷ [];
    holds = holds;
    numbered = omega (arith, so_far.numbered, length-append so_far.given (given.seen ∷ []));
    reads = same ∙ so_far.reads;
    sound = sound_on _ _ _ _ so_far.sound (checks_doc checks);
    counted = omega (arith, (goes checks).count, so_far.counted);
    failures = (goes checks).counted ∙ so_far.failures;
    files = shown_next given checks;
  }
