-- A file whose refusals are reported one after another.
use Rattle.std.proofs.Common.{◌≡◌, ℕ, List, [], ◌∷◌, ◌++◌, length, Option, Some, None, Result, Ok, Err, refl, sym, ap, ap₂, subst, ◌∙◌, append-nil}
use Rattle.std.proofs.KnownBytes.{Appends-nil, Appends-trans}
use Rattle.std.proofs.lemmas.List.{map-append}
use Rattle.std.proofs.lemmas.List.Concat.{flat_map-append}
use Rattle.std.specs.Io.KnownBytes.{Appends}
use Rattle.std.specs.Prelude.{⊤}
use Rattle.std.specs.List.{flat_map}
use Rattle.deb_base.specs.Bodies.{file_limit}
use Rattle.deb_base.specs.Devices.{AppendsFront, read_failures_after, write_failures_after}
use Rattle.deb_base.specs.Reading.{IsMemoryOrRead, TakesNoMore}
use Rattle.deb_base.specs.declared.doc.Doc.{Doc}
use Rattle.deb_base.specs.declared.fault.Fault.{Fault}
use Rattle.deb_base.specs.declared.fault.Fault.TheVariants.{Refused, Memory, Read, Write}
use Rattle.deb_base.specs.declared.refusal.Refusal.{Refusal}
use Rattle.deb_base.proofs.Writes.{AppendsFront-then}
use Rattle.deb_control.specs.GivenRefusals.{AreFirst, GivesNext, HasGiven, summary_of}
use Rattle.deb_control.specs.SeenRefusals.{SeenRefusal, refusals_alone}
use Rattle.deb_control.specs.declared.refusals.Refusals.{Refusals}
use Rattle.deb_control.specs.declared.summary.Summary.{Summary}
use Rattle.debctl_commands.specs.AuditAllJob.{AreFirstOf, FileReport, Finds, WritesReport, cut, end_record, end_status, refusal_record, refusals_status, whole}
use Rattle.debctl_args.specs.declared.jobs.LineEnd.{LineEnd}

-- ---- one file

-- a reader of refusals has given these refusals of a text, however they are seen
pub record Given (doc : Doc) (text : List ℕ) (refusals : Refusals) (left : Option (List ℕ)) (done : List Refusal) : Type 0 where
  pub seen : List SeenRefusal
  pub given : HasGiven doc text refusals left seen
  pub is : refusals_alone seen ≡ done

-- a failed write is counted alike, whatever the answer is else
counts_as : (fault : Fault) → fault ≡ Write → (m n : ℕ) → m ≡ write_failures_after {T = ⊤} n (Err fault) → m ≡ write_failures_after {T = ℕ} n (Err fault)
counts_as fault is m n counts = counts ∙ ap (λ f. write_failures_after {T = ⊤} n (Err f)) is ∙ sym (ap (λ f. write_failures_after {T = ℕ} n (Err f)) is)

-- a refusal more is status 2
two_after : (done : List Refusal) (refusal : Refusal) → 2 ≡ refusals_status (done ++ refusal ∷ [])
two_after [] refusal = refl
two_after (one ∷ done) refusal = refl

alone_more : (seen : List SeenRefusal) (done : List Refusal) (one : SeenRefusal) (refusal : Refusal) → refusals_alone seen ≡ done → one.refusal ≡ refusal → refusals_alone (seen ++ one ∷ []) ≡ done ++ refusal ∷ []
alone_more seen done one refusal is same = map-append (λ one. one.refusal) seen (one ∷ []) ∙ ap₂ (λ l r. l ++ r ∷ []) is same

-- the first of them
first_of : (doc : Doc) (text : List ℕ) (seen : List SeenRefusal) (done : List Refusal) → refusals_alone seen ≡ done → AreFirst doc text seen → AreFirstOf doc text done
first_of doc text seen done is first = (refusals_alone first.more, first.refusals ∙ ap (λ l. l ++ refusals_alone first.more) is)

first_at_fault : (doc : Doc) (text : List ℕ) (fault : Fault) (new : Refusals) (left : Option (List ℕ)) (seen : List SeenRefusal) → GivesNext doc text (Err fault) new left seen → AreFirst doc text seen
first_at_fault doc text (Refused refusal) new left seen gives = absurd gives
first_at_fault doc text Memory new left seen gives = gives
first_at_fault doc text Read new left seen gives = gives
first_at_fault doc text Write new left seen gives = absurd gives

module _ (doc : Doc) (end : LineEnd) (path : List ℕ) (left old : Option (List ℕ)) where
  abbrev record_of : Refusal → List ℕ
  record_of refusal = refusal_record end path refusal

  -- what was found of the file so far, and written
  pub record SoFar (refusals : Refusals) (now held : Option (List ℕ)) (status : ℕ) : Type 0 where
    pub done : List Refusal
    pub written : Appends old held (flat_map record_of done)
    pub status_is : status ≡ refusals_status done
    pub given : (text : List ℕ) → left ≡ Some text → Given doc text refusals now done

  pub none_so_far : (refusals : Refusals) → ((text : List ℕ) → HasGiven doc text refusals (Some text) []) → SoFar refusals left old 0
  none_so_far refusals starts = record {
    done = [];
    written = Appends-nil old;
    status_is = refl;
    given = λ text is. record { seen = []; given = subst (λ l. HasGiven doc text refusals l []) (sym is) (starts text); is = refl };
  }

  -- one more was found
  module _ (refusals : Refusals) (now held : Option (List ℕ)) (status : ℕ) (so_far : SoFar refusals now held status) (new : Refusals) (left_new : Option (List ℕ)) where
    abbrev Gives : Result (Option Refusal) Fault → Type 0
    Gives answer = (doc : Doc) (text : List ℕ) (done : List SeenRefusal) → HasGiven doc text refusals now done → GivesNext doc text answer new left_new done

    abbrev Takes : Type 0
    Takes = (doc : Doc) (text : List ℕ) (done : List SeenRefusal) → HasGiven doc text refusals now done → TakesNoMore text file_limit left_new

    records_more : (refusal : Refusal) → flat_map record_of so_far.done ++ record_of refusal ≡ flat_map record_of (so_far.done ++ refusal ∷ [])
    records_more refusal = sym (flat_map-append record_of so_far.done (refusal ∷ []) ∙ ap (λ l. flat_map record_of so_far.done ++ l) (append-nil (record_of refusal)))

    given_more : (refusal : Refusal) → Gives (Ok (Some refusal)) → (text : List ℕ) → left ≡ Some text → Given doc text new left_new (so_far.done ++ refusal ∷ [])
    given_more refusal gives text is =
        let was = so_far.given text is in
        let next = gives doc text was.seen was.given in
        record { seen = was.seen ++ next.seen ∷ []; given = next.given; is = alone_more was.seen so_far.done next.seen refusal was.is next.same }

    pub more_so_far : (refusal : Refusal) → Gives (Ok (Some refusal)) → (held_new : Option (List ℕ)) → Appends held held_new (record_of refusal) → SoFar new left_new held_new 2
    more_so_far refusal gives held_new appends = record {
      done = so_far.done ++ refusal ∷ [];
      written = subst (Appends old held_new) (records_more refusal) (Appends-trans old held held_new (flat_map record_of so_far.done) (record_of refusal) so_far.written appends);
      status_is = two_after so_far.done refusal;
      given = given_more refusal gives;
    }

    -- its record couldn't be written
    pub cut_off : (refusal : Refusal) → Gives (Ok (Some refusal)) → Takes → (count count_new : ℕ) → count_new ≡ count → (held_new : Option (List ℕ)) → AppendsFront held held_new (record_of refusal) → (fault : Fault) → fault ≡ Write
        → (writes writes_new : ℕ) → writes_new ≡ write_failures_after {T = ⊤} writes (Err fault) → (report : FileReport) × Finds doc left left_new count count_new report × WritesReport end path report old held_new writes writes_new (Err fault)
    cut_off refusal gives takes count count_new counted held_new front fault is writes writes_new counts = (
      cut (so_far.done ++ refusal ∷ []),
      record {
        first = λ text told. (let more = given_more refusal gives text told in first_of doc text more.seen _ more.is more.given.first);
        reads = counted;
        reads_at_most = λ text told. (let was = so_far.given text told in takes doc text was.seen was.given);
      },
      record {
        written = subst (AppendsFront old held_new) (records_more refusal) (AppendsFront-then old held held_new (flat_map record_of so_far.done) (record_of refusal) so_far.written front);
        ends = is;
        counted = counts_as fault is writes_new writes counts;
      },
    )

    -- none follows
    pub at_end : (summary : Summary) → summary ≡ summary_of new → Gives (Ok None) → Takes → (count count_new : ℕ) → count_new ≡ count → Finds doc left left_new count count_new (whole so_far.done (Ok summary))
    at_end summary is gives takes count count_new counted = record {
      first = λ text told. (let was = so_far.given text told in (let last = gives doc text was.seen was.given in ([], last.refusals ∙ was.is ∙ sym (append-nil so_far.done))));
      all = λ text told. (let was = so_far.given text told in (let last = gives doc text was.seen was.given in record {
        all = last.refusals ∙ was.is;
        passed = ap (λ (s : Summary). s.passed) is ∙ last.passed;
        refused = ap (λ (s : Summary). s.refused) is ∙ last.refused ∙ ap length (last.refusals ∙ was.is);
      }));
      fault = tt;
      reads = counted;
      reads_at_most = λ text told. (let was = so_far.given text told in takes doc text was.seen was.given);
    }

    -- a fault follows
    pub at_fault : (fault : Fault) → IsMemoryOrRead fault → Gives (Err fault) → Takes → (count count_new : ℕ) → count_new ≡ read_failures_after {T = Summary} count (Err fault) → Finds doc left left_new count count_new (whole so_far.done (Err fault))
    at_fault fault is gives takes count count_new counted = record {
      first = λ text told. (let was = so_far.given text told in first_of doc text was.seen so_far.done was.is (first_at_fault doc text fault new left_new was.seen (gives doc text was.seen was.given)));
      all = λ text told. tt;
      fault = is;
      reads = counted;
      reads_at_most = λ text told. (let was = so_far.given text told in takes doc text was.seen was.given);
    }

  -- nothing was read after so many
  pub at_many : (refusals : Refusals) (now held : Option (List ℕ)) (status : ℕ) (so_far : SoFar refusals now held status) (count count_new : ℕ) → count_new ≡ count → Finds doc left now count count_new (whole so_far.done (Err Memory))
  at_many refusals now held status so_far count count_new counted = record {
    first = λ text told. (let was = so_far.given text told in first_of doc text was.seen so_far.done was.is was.given.first);
    all = λ text told. tt;
    fault = tt;
    reads = counted;
    reads_at_most = λ text told. (so_far.given text told).given.taken;
  }

  -- the record of the end was written, or a front of it
  pub ended : (done : List Refusal) (held : Option (List ℕ)) → Appends old held (flat_map record_of done) → (last : Result Summary Fault) (held_new : Option (List ℕ)) → Appends held held_new (end_record end path last)
      → (status : ℕ) → status ≡ end_status done last → (writes writes_new : ℕ) → writes_new ≡ writes → WritesReport end path (whole done last) old held_new writes writes_new (Ok status)
  ended done held written last held_new appends status is writes writes_new counts = record {
    written = Appends-trans old held held_new (flat_map record_of done) (end_record end path last) written appends;
    ends = is;
    counted = counts;
  }

  pub unended : (done : List Refusal) (held : Option (List ℕ)) → Appends old held (flat_map record_of done) → (last : Result Summary Fault) (held_new : Option (List ℕ)) → AppendsFront held held_new (end_record end path last)
      → (fault : Fault) → fault ≡ Write → (writes writes_new : ℕ) → writes_new ≡ write_failures_after {T = ⊤} writes (Err fault) → WritesReport end path (whole done last) old held_new writes writes_new (Err fault)
  unended done held written last held_new front fault is writes writes_new counts = record {
    written = AppendsFront-then old held held_new (flat_map record_of done) (end_record end path last) written front;
    ends = is;
    counted = counts_as fault is writes_new writes counts;
  }
