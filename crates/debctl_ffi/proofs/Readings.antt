-- What is known of the paragraphs that were read after others, and of the tables of their fields.
use Rattle.std.proofs.Common.{◌≡◌, ℕ, ◌+◌, ◌-◌, ◌^◌, ◌<◌, ◌≤◌, ◌==◌, ◌⊎◌, inl, inr, min, Bool, true, false, List, [], ◌∷◌, ◌++◌, length, Option, None, Some, IfOk, Result, Ok, Err, refl, sym, ap, ◌∙◌, subst, append_assoc, append-nil, arith}
use Rattle.std.proofs.lemmas.List.{length-append, length-map, length_push}
use Rattle.deb_base.specs.Bodies.{file_limit}
use Rattle.deb_base.specs.declared.doc.Doc.{Doc}
use Rattle.deb_base.specs.declared.fault.Fault.{Fault}
use Rattle.deb_base.specs.declared.refusal.Refusal.{Refusal}
use Rattle.deb_syntax.specs.Answers.{Seen, next_answer}
use Rattle.deb_control.specs.Calls.{IfRefused}
use Rattle.deb_control.specs.Checking.{AnswersChecked, CheckedMoment, CheckedState, Checks, GivesEnd, GivesPassing, Passing, all_pass}
use Rattle.deb_control.specs.Documents.{rules_of}
use Rattle.deb_control.specs.Refusals.{Answered, outcome}
use Rattle.deb_control.proofs.CheckedSoFar.{again_all, all_checked, count_all, outcome_at_end, refused_behind, refused_then}
use Rattle.deb_control.proofs.ShownSoFar.{next-push}
use Rattle.debctl_ffi.proofs.FieldsSoFar.{numbered_from-push}
use Rattle.debctl_ffi.specs.Blanks.{DropsBlanks}
use Rattle.debctl_ffi.specs.KeptTexts.{kept_text}
use Rattle.debctl_ffi.specs.declared.kept.Kept.{Kept}
use Rattle.debctl_ffi.proofs.AlikeTexts.{alike-more, alike-then, drops-alike, drops-some, has_read-alike}
use Rattle.debctl_ffi.proofs.LongTexts.{changes-alike, changes-some}
use Rattle.debctl_ffi.specs.LongLines.{ChangesLongLine}
use Rattle.debctl_ffi.specs.Alike.{AnswerAlike}
use Rattle.debctl_ffi.specs.Feeds.{Feeds, HasRead, IsFed, Reading, ReadsAll, ReadsOn, Refuses, RefusesOn, ShowNext, TakesLast, TakesPiece}
use Rattle.debctl_ffi.specs.Answers.{counting, plain, refusing}
use Rattle.debctl_ffi.specs.declared.answer.Answer.{Answer}
use Rattle.debctl_ffi.proofs.Feeding.{has_read-more}
use Rattle.debctl_ffi.specs.declared.reader.Reader.{Reader}
use Rattle.deb_control.specs.CheckedStates.{checked_state, doc_read}
use Rattle.deb_control.specs.GivenParagraphs.{AreNext}
use Rattle.debctl_ffi.specs.Fields.{Numbered, numbered, numbered_from}
use Rattle.debctl_ffi.specs.Tables.{HasTables}
use Rattle.debctl_ffi.specs.declared.field.Tables.{Tables}

module _ (doc : Doc) (text : List ℕ) (given fresh : List Seen) (state new : CheckedState) (left after : Option (List ℕ)) (tables : Tables) (count : ℕ) (reading : Reading doc text given fresh state left tables count) where
  -- one paragraph more
  pub reads-one : (pushed : Tables) (passing : Passing) → new.fault ≡ None → GivesPassing doc text (all_pass reading.read.checked.before) passing new after
      → ((shown : List Numbered) → HasTables tables shown → HasTables pushed (shown ++ numbered (count + 1) passing.seen.fields))
      → Reading doc text given (fresh ++ passing.seen ∷ []) new after pushed (count + 1)
  reads-one pushed passing sound gives push =
      let before = reading.read.checked.before in
      let seen = passing.seen in
      let so_far : List Seen = given ++ fresh in
      let all : so_far ++ seen ∷ [] ≡ given ++ (fresh ++ seen ∷ []) = append_assoc given fresh (seen ∷ []) in
      let at : length given + 1 + length fresh ≡ count + 1 = omega (arith, reading.counted, length-append given fresh) in
      record {
        sound = sound;
        read = record {
          checked = record { before = before ++ gives.entries ∷ []; fits = again_all before gives };
          next = subst (AreNext text 0) all (next-push text 0 so_far seen reading.read.next (subst (λ k. next_answer text k ≡ Ok (Some seen)) (omega (arith, reading.read.counted, length-map {B = Answered} before (λ e. Ok e))) gives.seen));
          counted = ap length (sym all) ∙ length_push so_far seen ∙ ap (λ n. n + 1) reading.read.counted ∙ sym (length_push before gives.entries);
        };
        shows = subst (HasTables pushed) (ap (λ k. numbered_from (length given + 1) fresh ++ numbered k seen.fields) (sym at) ∙ sym (numbered_from-push (length given + 1) fresh seen)) (push (numbered_from (length given + 1) fresh) reading.shows);
        counted = ap (λ n. n + 1) reading.counted ∙ sym (length_push so_far seen) ∙ ap length all;
      }

  -- there is no further one
  pub reads-all : GivesEnd doc text (all_pass reading.read.checked.before) new after → ReadsAll doc text given fresh tables count
  reads-all end =
      let checked = reading.read.checked in
      record {
        has = all_checked doc text state new left after count checked (count_all checked.before checked.fits ∙ sym (reading.counted ∙ reading.read.counted)) end;
        all = record {
          next = reading.read.next;
          passed = reading.read.counted ∙ ap (λ o. length o.passed) (sym (outcome_at_end doc text checked.before checked.fits end));
        };
        shows = reading.shows;
      }

  pub reads-end : new.fault ≡ None → GivesEnd doc text (all_pass reading.read.checked.before) new after → Reading doc text given fresh new after tables count
  reads-end sound end = record {
    sound = sound;
    read = record {
      checked = record { before = reading.read.checked.before; fits = end.again };
      next = reading.read.next;
      counted = reading.read.counted;
    };
    shows = reading.shows;
    counted = reading.counted;
  }

  -- the file is refused after these
  pub refuses : (fault : Fault) → AnswersChecked doc text (all_pass reading.read.checked.before) (Err fault) new after → IfRefused {T = Bool} (Err fault) (λ refusal. Refuses doc text given fresh refusal tables)
  refuses fault answer =
      refused_then Bool (λ refusal. outcome (rules_of doc) text ≡ record { passed = reading.read.checked.before; refusal = Some refusal }) (λ refusal. Refuses doc text given fresh refusal tables) fault
      (λ refusal is. record {
        refused = ap (λ o. o.refusal) is;
        all = record { next = reading.read.next; passed = reading.read.counted ∙ ap (λ o. length o.passed) (sym is) };
        shows = reading.shows;
      })
      (refused_behind Bool doc text state new left after fault reading.read.checked answer)

-- the number of the next one is within its bits
pub count_more : (doc : Doc) (text : List ℕ) (given fresh : List Seen) (before after : CheckedMoment) (tables : Tables) (count : ℕ) → Reading doc text given fresh before.state before.source.bytes tables count
    → {passing : Passing} → Checks doc before (Ok (Some passing)) after → min (count + 1) (2 ^ 64 - 1) ≡ count + 1
unfolding file_limit
count_more doc text given fresh before after tables count reading checks =
    omega (arith, checks.count, checks.few, reading.counted, reading.read.counted, count_all reading.read.checked.before reading.read.checked.fits)

-- after some
pub refuses-on : (doc : Doc) (text : List ℕ) (given fresh : List Seen) (tables : Tables) (fault : Fault) → IfRefused {T = Bool} (Err fault) (λ refusal. Refuses doc text given fresh refusal tables) → IfRefused {T = Bool} (Err fault) (λ refusal. RefusesOn doc text given refusal tables)
refuses-on doc text given fresh tables fault refused =
    refused_then Bool (λ refusal. Refuses doc text given fresh refusal tables) (λ refusal. RefusesOn doc text given refusal tables) fault (λ refusal is. record { fresh = fresh; refuses = is }) refused

-- the text that a reader reads in place of the one that it was fed
abbrev pub other_of : (doc : Doc) (text : List ℕ) (given : List Seen) (reader : Reader) → IsFed doc text given reader → List ℕ
other_of doc text given reader fed = fed.front ++ kept_text reader.kept

-- What a reader was fed, and a piece: nothing of it was read.
pub starts-reading : (doc : Doc) (text piece : List ℕ) (given : List Seen) (reader : Reader) (fed : IsFed doc text given reader) → ShowNext (length given) [] reader.tables → Reading (doc_read reader.checked) (other_of doc text given reader fed ++ piece) given [] (checked_state reader.checked) (Some (kept_text reader.kept ++ piece)) reader.tables reader.count
starts-reading doc text piece given reader fed shows =
    let same : given ≡ given ++ [] = sym (append-nil given) in
    let other = other_of doc text given reader fed in
    record {
      sound = fed.sound;
      read = subst (λ d. HasRead d (other ++ piece) (given ++ []) (checked_state reader.checked) (Some (kept_text reader.kept ++ piece))) (sym fed.is_doc)
          (subst (λ all. HasRead doc (other ++ piece) all (checked_state reader.checked) (Some (kept_text reader.kept ++ piece))) same (fed.reads piece));
      shows = shows;
      counted = fed.count ∙ ap length same;
    }

pub refused-then : (r : Result (Unit {0}) Fault) (P Q : Refusal → Type 0) → ((refusal : Refusal) → P refusal → Q refusal) → IfRefused r P → IfRefused r Q
refused-then (Ok x) P Q then p = tt
refused-then (Err fault) P Q then p = refused_then (Unit {0}) P Q fault then p

pub ok-then : {E : Type 0} (r : Result (Unit {0}) E) (P Q : Type 0) → (P → Q) → IfOk r (λ _. P) → IfOk r (λ _. Q)
ok-then (Ok x) P Q then p = then p
ok-then (Err fault) P Q then p = tt

-- an accepted file isn't too long
pub never-long : (doc : Doc) (text piece : List ℕ) (given : List Seen) (n : ℕ) (new : Reader) → file_limit < min (n + length piece) (2 ^ 64 - 1) → n ≡ length text → TakesLast doc text given piece new → ⊥
never-long doc text piece given n new long fed takes =
    absurd (omega (arith, long, fed, takes.reads.reads.has.accepted.short, length-append text piece))

long-then : (r : Result (Unit {0}) Fault) (P Q : Type 0) → (P → ⊥) → IfOk r (λ _. P) → IfOk r (λ _. Q)
long-then (Ok x) P Q never p = absurd (never p)
long-then (Err fault) P Q never p = tt

-- so the answer to a longer one isn't that it was taken
pub long-refused : (r : Result (Unit {0}) Fault) (doc : Doc) (text piece : List ℕ) (given : List Seen) (n : ℕ) (new : Reader) → file_limit < min (n + length piece) (2 ^ 64 - 1) → n ≡ length text → IfOk r (λ _. TakesLast doc text given piece new) → IfOk r (λ _. TakesPiece doc text given piece new)
long-refused r doc text piece given n new long fed = long-then r (TakesLast doc text given piece new) (TakesPiece doc text given piece new) (never-long doc text piece given n new long fed)

-- how many bytes were fed
fed-more : (text piece : List ℕ) (n : ℕ) → n ≡ length text → min (n + length piece) (2 ^ 64 - 1) ≤ file_limit → (min (n + length piece) (2 ^ 64 - 1) ≡ length (text ++ piece)) × (length (text ++ piece) ≤ file_limit)
unfolding file_limit
fed-more text piece n fed short = (omega (arith, fed, short, length-append text piece), omega (arith, fed, short, length-append text piece))

pub zero-of : (n : ℕ) → (n == 0) ≡ true → n ≡ 0
zero-of n h = grind (arith, h, Rattle.std.proofs.lemmas.Bool.Decides.nat_tests)

pub empty-of : (bytes : List ℕ) → (length bytes == 0) ≡ true → bytes ≡ []
empty-of [] h = refl
empty-of (byte ∷ bytes) h = absurd (omega (arith, zero-of (length (byte ∷ bytes)) h))

none-fresh : (given : List Seen) → given ≡ given ++ []
none-fresh given = sym (append-nil given)

-- A piece in which no paragraph ends is kept.
pub keeps-piece : (doc : Doc) (text piece : List ℕ) (given : List Seen) (old new : Reader) → IsFed doc text given old → ShowNext (length given) [] new.tables
    → min (old.fed + length piece) (2 ^ 64 - 1) ≤ file_limit → new.fed ≡ min (old.fed + length piece) (2 ^ 64 - 1) → new.answer ≡ old.answer → new.ended ≡ old.ended → new.checked ≡ old.checked → new.count ≡ old.count → kept_text new.kept ≡ kept_text old.kept ++ piece
    → TakesPiece doc text given piece new
keeps-piece doc text piece given old new is shows short fed answer ended checked count kept =
    let more = fed-more text piece old.fed is.fed short in
    let was = kept_text old.kept in
    let now = kept_text new.kept in
    let all : (is.front ++ was) ++ piece ≡ is.front ++ now = append_assoc is.front was piece ∙ ap (λ k. is.front ++ k) (sym kept) in
    record {
      fresh = [];
      fed = record {
        status = ap (λ a. a.status) answer ∙ is.status;
        goes_on = ended ∙ is.goes_on;
        is_doc = ap doc_read checked ∙ is.is_doc;
        sound = ap (λ c. (checked_state c).fault) checked ∙ is.sound;
        count = count ∙ is.count ∙ ap length (none-fresh given);
        fed = fed ∙ more.0;
        short = more.1;
        front = is.front;
        alike = subst (λ t. AnswerAlike (text ++ piece) t) all (alike-more text (is.front ++ was) piece is.alike);
        reads = λ bytes.
            let whole : (is.front ++ was) ++ (piece ++ bytes) ≡ (is.front ++ now) ++ bytes = sym (append_assoc (is.front ++ was) piece bytes) ∙ ap (λ t. t ++ bytes) all in
            let left : was ++ (piece ++ bytes) ≡ now ++ bytes = sym (append_assoc was piece bytes) ∙ ap (λ k. k ++ bytes) (sym kept) in
            subst (λ t. HasRead doc t (given ++ []) (checked_state new.checked) (Some (now ++ bytes))) whole
            (subst (λ l. HasRead doc ((is.front ++ was) ++ (piece ++ bytes)) (given ++ []) (checked_state new.checked) (Some l)) left
            (subst (λ c. HasRead doc ((is.front ++ was) ++ (piece ++ bytes)) (given ++ []) (checked_state c) (Some (was ++ (piece ++ bytes)))) (sym checked)
            (subst (λ g. HasRead doc ((is.front ++ was) ++ (piece ++ bytes)) g (checked_state old.checked) (Some (was ++ (piece ++ bytes)))) (none-fresh given) (is.reads (piece ++ bytes)))));
      };
      shows = shows;
    }

some_bytes : (a b : List ℕ) → Some a ≡ Some b → a ≡ b
some_bytes a b e = cc

-- Paragraphs of it were read, and some bytes are kept.
pub reads-piece : (doc : Doc) (text piece rest : List ℕ) (given : List Seen) (old new : Reader) (is : IsFed doc text given old)
    → min (old.fed + length piece) (2 ^ 64 - 1) ≤ file_limit → new.fed ≡ min (old.fed + length piece) (2 ^ 64 - 1) → new.answer ≡ old.answer → new.ended ≡ old.ended → doc_read new.checked ≡ doc
    → 0 < length rest → kept_text new.kept ≡ rest → ReadsOn doc (other_of doc text given old is ++ piece) given (checked_state new.checked) (Some rest) new.tables new.count
    → TakesPiece doc text given piece new
reads-piece doc text piece rest given old new is short fed answer ended is_doc some kept reads =
    let more = fed-more text piece old.fed is.fed short in
    let reading = reads.reading in
    let checked = reading.read.checked.fits in
    let fits = checked.fits in
    let other = other_of doc text given old is in
    let unread = (checked_state new.checked).reader.unread in
    let front = checked.passed ++ (fits.overlong ++ unread) in
    let whole : other ++ piece ≡ front ++ kept_text new.kept =
    fits.whole ∙ ap (λ t. checked.passed ++ (fits.overlong ++ (unread ++ t))) (sym (some_bytes rest fits.rest fits.told) ∙ sym kept)
    ∙ ap (λ t. checked.passed ++ t) (sym (append_assoc fits.overlong unread (kept_text new.kept))) ∙ sym (append_assoc checked.passed (fits.overlong ++ unread) (kept_text new.kept)) in
    let within : length (other ++ piece) ≤ file_limit = omega (arith, more.1, is.alike.bytes, length-append text piece, length-append other piece) in
    record {
      fresh = reads.fresh;
      fed = record {
        status = ap (λ a. a.status) answer ∙ is.status;
        goes_on = ended ∙ is.goes_on;
        is_doc = is_doc;
        sound = reading.sound;
        count = reading.counted;
        fed = fed ∙ more.0;
        short = more.1;
        front = front;
        alike = subst (λ t. AnswerAlike (text ++ piece) t) whole (alike-more text other piece is.alike);
        reads = λ bytes.
            subst (λ t. HasRead doc (t ++ bytes) (given ++ reads.fresh) (checked_state new.checked) (Some (kept_text new.kept ++ bytes))) whole
            (subst (λ r. HasRead doc ((other ++ piece) ++ bytes) (given ++ reads.fresh) (checked_state new.checked) (Some (r ++ bytes))) (sym kept)
            (has_read-more doc (other ++ piece) bytes (given ++ reads.fresh) (checked_state new.checked) rest some within reading.read));
      };
      shows = reading.shows;
    }

-- Bytes that are kept are in the place of others.
keeps-same : (doc : Doc) (text : List ℕ) (given : List Seen) (reader : Reader) (kept : Kept) → IsFed doc text given reader → kept_text kept ≡ kept_text reader.kept → IsFed doc text given (record reader { kept = kept })
keeps-same doc text given reader kept is same = record {
  status = is.status;
  goes_on = is.goes_on;
  is_doc = is.is_doc;
  sound = is.sound;
  count = is.count;
  fed = is.fed;
  short = is.short;
  front = is.front;
  alike = subst (λ k. AnswerAlike text (is.front ++ k)) (sym same) is.alike;
  reads = λ more. subst (λ k. HasRead doc ((is.front ++ k) ++ more) given (checked_state reader.checked) (Some (k ++ more))) (sym same) (is.reads more);
}

keeps-alike : (doc : Doc) (text : List ℕ) (given : List Seen) (reader : Reader) (kept : Kept) (is : IsFed doc text given reader) → AnswerAlike (is.front ++ kept_text reader.kept) (is.front ++ kept_text kept) → 0 < length (kept_text reader.kept) → IsFed doc text given (record reader { kept = kept })
keeps-alike doc text given reader kept is alike some = record {
  status = is.status;
  goes_on = is.goes_on;
  is_doc = is.is_doc;
  sound = is.sound;
  count = is.count;
  fed = is.fed;
  short = is.short;
  front = is.front;
  alike = alike-then text (is.front ++ kept_text reader.kept) (is.front ++ kept_text kept) is.alike alike;
  reads = λ more. has_read-alike doc is.front (kept_text reader.kept) (kept_text kept) more given (checked_state reader.checked) alike some (is.reads more);
}

short_other : (doc : Doc) (text : List ℕ) (given : List Seen) (reader : Reader) (is : IsFed doc text given reader) → length (is.front ++ kept_text reader.kept) ≤ file_limit
short_other doc text given reader is = omega (arith, is.short, is.alike.bytes)

-- Blank lines among the bytes that are kept are only counted.
pub drops-blanks : (doc : Doc) (text : List ℕ) (given : List Seen) (reader : Reader) (kept : Kept) → IsFed doc text given reader → (kept_text kept ≡ kept_text reader.kept) ⊎ DropsBlanks (kept_text reader.kept) (kept_text kept) → IsFed doc text given (record reader { kept = kept })
drops-blanks doc text given reader kept is (inl same) = keeps-same doc text given reader kept is same
drops-blanks doc text given reader kept is (inr drops) =
    let short = short_other doc text given reader is in
    keeps-alike doc text given reader kept is (drops-alike is.front (kept_text reader.kept) (kept_text kept) drops short)
    (drops-some is.front (kept_text reader.kept) (kept_text kept) drops short)

-- Bytes of a line that is longer than a paragraph may be are only counted.
pub drops-line : (doc : Doc) (text : List ℕ) (given : List Seen) (reader : Reader) (kept : Kept) → IsFed doc text given reader → (kept_text kept ≡ kept_text reader.kept) ⊎ ChangesLongLine (kept_text reader.kept) (kept_text kept) → IsFed doc text given (record reader { kept = kept })
drops-line doc text given reader kept is (inl same) = keeps-same doc text given reader kept is same
drops-line doc text given reader kept is (inr changes) =
    keeps-alike doc text given reader kept is (changes-alike (kept_text reader.kept) (kept_text kept) changes is.front (short_other doc text given reader is))
    (changes-some (kept_text reader.kept) (kept_text kept) changes)

-- The answer doesn't matter to what was read.
pub fed-answered : (doc : Doc) (text : List ℕ) (given : List Seen) (reader : Reader) (answer : Answer) → answer.status ≡ 0 → IsFed doc text given reader → IsFed doc text given (record reader { answer = answer })
fed-answered doc text given reader answer status is = record {
  status = status;
  goes_on = is.goes_on;
  is_doc = is.is_doc;
  sound = is.sound;
  count = is.count;
  fed = is.fed;
  short = is.short;
  front = is.front;
  alike = is.alike;
  reads = is.reads;
}

pub fed-cleared : (doc : Doc) (text : List ℕ) (given : List Seen) (reader : Reader) (tables : Tables) → IsFed doc text given reader → IsFed doc text given (record reader { tables = tables })
fed-cleared doc text given reader tables is = record {
  status = is.status;
  goes_on = is.goes_on;
  is_doc = is.is_doc;
  sound = is.sound;
  count = is.count;
  fed = is.fed;
  short = is.short;
  front = is.front;
  alike = is.alike;
  reads = is.reads;
}

-- What is answered of a piece.
module _ (doc : Doc) (text : List ℕ) (given : List Seen) (piece : List ℕ) (is_last : Bool) (new : Reader) where
  pub answers-taken : (is_last ≡ false → TakesPiece doc text given piece new) → (is_last ≡ true → TakesLast doc text given piece new) → Feeds doc text given piece is_last (counting 0 new.count) (record new { answer = counting 0 new.count })
  answers-taken taken last = record {
    taken = λ status on. (
      refl,
      let takes = taken on in record {
        fresh = takes.fresh;
        fed = fed-answered doc (text ++ piece) (given ++ takes.fresh) new (counting 0 new.count) refl takes.fed;
        shows = takes.shows;
      },
    );
    last = λ status on. (refl, record { reads = (last on).reads; ended = (last on).ended });
    refused = λ status. absurd (omega (arith, status));
    no_memory = λ status. absurd (omega (arith, status));
    status = refl;
  }

  pub answers-refused : (refusal : Refusal) → RefusesOn doc (text ++ piece) given refusal new.tables → Feeds doc text given piece is_last (refusing 2 refusal) (record new { answer = refusing 2 refusal })
  answers-refused refusal refused = record {
    taken = λ status on. absurd (omega (arith, status));
    last = λ status on. absurd (omega (arith, status));
    refused = λ status. (refusal, refl, refused);
    no_memory = λ status. absurd (omega (arith, status));
    status = refl;
  }

  pub answers-no_memory : ShowNext (length given) [] new.tables → Feeds doc text given piece is_last (plain 5) (record new { answer = plain 5 })
  answers-no_memory shows = record {
    taken = λ status on. absurd (omega (arith, status));
    last = λ status on. absurd (omega (arith, status));
    refused = λ status. absurd (omega (arith, status));
    no_memory = λ status. (refl, shows);
    status = refl;
  }
