-- What a reader of refusals has given of a file, and what is left of it. Debian Policy 5.1.
use Rattle.std.specs.Prelude.{◌≡◌, ℕ, ◌+◌, Bool, List, [], ◌∷◌, ◌++◌, length, Option, None, Some, IfSome, Result, Ok, Err, codes, refl, false}
use Rattle.std.specs.Option.{option_map}
use Rattle.deb_base.specs.Bodies.{file_limit}
use Rattle.deb_base.specs.Reading.{IsMemoryOrRead, TakesNoMore}
use Rattle.deb_base.specs.declared.doc.Doc.{Doc}
use Rattle.deb_base.specs.declared.fault.Fault.{Fault}
use Rattle.deb_base.specs.declared.fault.Fault.TheVariants.{Refused, Memory, Read, Write}
use Rattle.deb_base.specs.declared.refusal.Refusal.{Refusal}
use Rattle.deb_syntax.specs.Lines.{Paragraph}
use Rattle.deb_syntax.specs.Paragraphs.{seen_of}
use Rattle.deb_control.specs.AllRefusals.{passed_among, passed_of, refusals_of}
use Rattle.deb_control.specs.Checking.{CheckedState, FitsChecked}
use Rattle.deb_control.specs.CheckedStates.{checked_state, doc_read, lines_checked, a_checked}
use Rattle.deb_control.specs.Documents.{rules_of}
use Rattle.deb_control.specs.Positions.{fault_at, is_end, refusal_at}
use Rattle.deb_control.specs.Refusals.{Answered, next_given, passed_in}
use Rattle.deb_control.specs.Refused.{lines_given, seen_given}
use Rattle.deb_control.specs.SeenRefusals.{SeenRefusal, refusal_seen_given, refusals_alone, refusals_seen, refusals_seen_given}
use Rattle.deb_control.specs.Streams.{stream_given}
use Rattle.deb_control.specs.declared.checked.Checked.{Checked}
use Rattle.deb_control.specs.declared.refusals.Position.{Position}
use Rattle.deb_control.specs.declared.refusals.Position.TheVariants.{Start, At, End, Failed}
use Rattle.deb_control.specs.declared.refusals.RefusedRun.{RefusedRun}
use Rattle.deb_control.specs.declared.refusals.Refusals.{Refusals}
use Rattle.deb_control.specs.declared.summary.Summary.{Summary}
use Rattle.deb_base.specs.Literals.{lent}
use Rattle.deb_base.specs.declared.code.Code.TheVariants.{Comment, MissingField}
use Rattle.deb_base.specs.declared.doc.Doc.TheVariants.{Packages}

-- ---- what a reader of refusals shows

abbrev pub summary_of : Refusals → Summary
summary_of r = r.summary

-- the refusal that it gave last, where it hasn't gone on since
abbrev pub given_last : Refusals → Option Refusal
given_last r = refusal_at r.position

-- the error that it gave
abbrev pub failure_of : Refusals → Option Fault
failure_of r = fault_at r.position

-- whether it answered that no further refusal follows
abbrev pub has_ended : Refusals → Bool
has_ended r = is_end r.position

-- what a view of a refused run shows
abbrev pub shown_by_run : RefusedRun → SeenRefusal
shown_by_run run =
    record {
      refusal = run.refusal;
      line = option_map (λ line. line.now) run.line;
      seen = option_map seen_of run.paragraph;
    }

-- ---- what it has given of a file

-- These are the first refusals of the file.
pub record AreFirst (doc : Doc) (text : List ℕ) (done : List SeenRefusal) : Type 0 where
  pub more : List SeenRefusal
  pub all : refusals_seen doc text ≡ done ++ more
  pub refusals : refusals_of doc text ≡ refusals_alone done ++ refusals_alone more

-- So many of the first paragraphs of a file passed, and the refusals of the others were these.
pub record Remains (doc : Doc) (text : List ℕ) (answered : List Answered) (passed : ℕ)
    (done : List SeenRefusal) : Type 0 where
  pub seen : refusals_seen doc text ≡ done ++ refusals_seen_given (rules_of doc) text answered
  pub total : passed_of doc text
      ≡ passed + passed_among (stream_given (rules_of doc) text answered).items
  pub counted : passed ≡ length (passed_in answered)

-- The reader of checked paragraphs goes on after them.
pub record Awaits (doc : Doc) (text : List ℕ) (state : CheckedState) (left : Option (List ℕ))
    (passed : ℕ) (done : List SeenRefusal) : Type 0 where
  pub answered : List Answered
  pub fits : FitsChecked doc text answered state left
  pub remains : Remains doc text answered passed done

-- The next run there is refused for this. The reader of checked paragraphs shows its lines and
-- fields; where its lines were judged, it has passed. The refusals before it were `front`.
pub record StandsAt (doc : Doc) (text : List ℕ) (refusal : Refusal) (state : CheckedState)
    (lines : Option Paragraph) (left : Option (List ℕ)) (passed : ℕ)
    (done : List SeenRefusal) : Type 0 where
  pub front : List SeenRefusal
  pub answered : List Answered
  pub remains : Remains doc text answered passed front
  pub refused : next_given (rules_of doc) text answered ≡ Err refusal
  pub fault : state.fault ≡ Some (Refused refusal)
  pub seen : state.reader.current ≡ seen_given (rules_of doc) text answered
  pub shown : lines ≡ lines_given (rules_of doc) text answered
  pub past : IfSome lines (λ _. FitsChecked doc text (answered ++ Err refusal ∷ []) state left)
  pub is : done ≡ front ++ refusal_seen_given (rules_of doc) text answered refusal ∷ []

-- All refusals were given.
pub record HasAll (doc : Doc) (text : List ℕ) (passed : ℕ) (done : List SeenRefusal)
    : Type 0 where
  pub seen : refusals_seen doc text ≡ done
  pub total : passed ≡ passed_of doc text

abbrev pub Stands : Doc → List ℕ → Position → CheckedState → Option Paragraph → Option (List ℕ) → ℕ
    → List SeenRefusal → Type 0
Stands doc text Start state lines left passed done = Awaits doc text state left passed done
Stands doc text (At refusal) state lines left passed done =
    StandsAt doc text refusal state lines left passed done
Stands doc text End state lines left passed done = HasAll doc text passed done
Stands doc text (Failed fault) state lines left passed done = ⊥

-- A reader of refusals has given exactly these refusals of a file as a document of a kind: the
-- first ones. At most one piece beyond the limit of a file was read.
pub record HasGiven (doc : Doc) (text : List ℕ) (r : Refusals) (left : Option (List ℕ))
    (done : List SeenRefusal) : Type 0 where
  pub first : AreFirst doc text done
  pub refused : r.summary.refused ≡ length done
  pub taken : TakesNoMore text file_limit left
  pub reads : doc_read r.checked ≡ doc
  pub stands : Stands doc text r.position (checked_state r.checked) (lines_checked r.checked) left
      r.summary.passed done

-- The parts of one that goes on.
pub record GoesOn (doc : Doc) (text : List ℕ) (checked : Checked) (summary : Summary)
    (left : Option (List ℕ)) (done : List SeenRefusal) : Type 0 where
  pub reads : doc_read checked ≡ doc
  pub awaits : Awaits doc text (checked_state checked) left summary.passed done
  pub refused : summary.refused ≡ length done

-- They find the next refusal.
pub record FindsRefusal (doc : Doc) (text : List ℕ) (refusal : Refusal) (checked : Checked)
    (summary : Summary) (left : Option (List ℕ)) (done : List SeenRefusal) : Type 0 where
  pub seen : SeenRefusal
  pub same : seen.refusal ≡ refusal
  pub refused : summary.refused ≡ length done + 1
  pub stands : StandsAt doc text refusal (checked_state checked) (lines_checked checked) left
      summary.passed (done ++ seen ∷ [])

-- They find that all were given.
pub record FindsEnd (doc : Doc) (text : List ℕ) (summary : Summary) (done : List SeenRefusal)
    : Type 0 where
  pub refused : summary.refused ≡ length done
  pub all : HasAll doc text summary.passed done

abbrev pub FindsNext : Doc → List ℕ → Result (Option Refusal) Fault → Checked → Summary
    → Option (List ℕ) → List SeenRefusal → Type 0
FindsNext doc text (Ok (Some refusal)) checked summary left done =
    FindsRefusal doc text refusal checked summary left done
FindsNext doc text (Ok None) checked summary left done = FindsEnd doc text summary done
FindsNext doc text (Err fault) checked summary left done = IsMemoryOrRead fault

-- It gives the next refusal.
pub record GivesRefusal (doc : Doc) (text : List ℕ) (refusal : Refusal) (new : Refusals)
    (left : Option (List ℕ)) (done : List SeenRefusal) : Type 0 where
  pub seen : SeenRefusal
  pub same : seen.refusal ≡ refusal
  pub given : HasGiven doc text new left (done ++ seen ∷ [])

-- It has given all, and the summary is that of the whole file.
pub record GivesAll (doc : Doc) (text : List ℕ) (new : Refusals) (left : Option (List ℕ))
    (done : List SeenRefusal) : Type 0 where
  pub given : HasGiven doc text new left done
  pub seen : refusals_seen doc text ≡ done
  pub refusals : refusals_of doc text ≡ refusals_alone done
  pub passed : (summary_of new).passed ≡ passed_of doc text
  pub refused : (summary_of new).refused ≡ length (refusals_of doc text)

-- What an answer says of a file after these refusals were given.
abbrev pub GivesNext : Doc → List ℕ → Result (Option Refusal) Fault → Refusals → Option (List ℕ)
    → List SeenRefusal → Type 0
GivesNext doc text (Ok (Some refusal)) new left done = GivesRefusal doc text refusal new left done
GivesNext doc text (Ok None) new left done = GivesAll doc text new left done
GivesNext doc text (Err (Refused refusal)) new left done = ⊥
GivesNext doc text (Err Memory) new left done = AreFirst doc text done
GivesNext doc text (Err Read) new left done = AreFirst doc text done
GivesNext doc text (Err Write) new left done = ⊥

-- This is the last of them.
pub record IsLastOf {A : Type 0} (last : A) (all : List A) : Type 0 where
  pub front : List A
  pub is : all ≡ front ++ last ∷ []

-- a line that is refused
run_shown : shown_by_run (record {
  doc = Packages;
  refusal = record { code = Comment; line = 4 };
  line = Some (lent (codes "# b"));
  paragraph = None;
}) ≡ record {
  refusal = record { code = Comment; line = 4 };
  line = Some (codes "# b");
  seen = None;
}
run_shown = refl

-- a reader that has given two refusals
abbrev two_given : Refusals
unfolding a_checked
two_given = record {
  checked = a_checked;
  summary = record { passed = 1; refused = 2 };
  position = At (record { code = MissingField; line = 5 });
  sound = refl;
}

parts_shown : (summary_of two_given ≡ record { passed = 1; refused = 2 })
    × (given_last two_given ≡ Some (record { code = MissingField; line = 5 }))
    × (failure_of two_given ≡ None) × (has_ended two_given ≡ false)
unfolding two_given
parts_shown = (refl, refl, refl, refl)
