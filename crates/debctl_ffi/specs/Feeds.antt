-- What a reader that is fed a file in pieces has read, and what it answers of each piece: Debian
-- Policy 5.1. That a file comes in pieces is this project's own.
use Rattle.std.specs.Prelude.{◌≡◌, ◌≢◌, ◌⊎◌, ℕ, ◌+◌, ◌≤◌, Bool, true, false, List, [], ◌∷◌, ◌++◌, length, Option, Some, None}
use Rattle.deb_base.specs.Bodies.{file_limit}
use Rattle.deb_base.specs.declared.doc.Doc.{Doc}
use Rattle.deb_base.specs.declared.refusal.Refusal.{Refusal}
use Rattle.deb_syntax.specs.Answers.{Seen}
use Rattle.deb_control.specs.Checking.{CheckedState, HasChecked}
use Rattle.deb_control.specs.CheckedStates.{checked_state, doc_read}
use Rattle.deb_control.specs.Calls.{HasParagraphs}
use Rattle.deb_control.specs.Documents.{refusal_of, rules_of}
use Rattle.deb_control.specs.Refusals.{outcome}
use Rattle.debctl_ffi.specs.Alike.{AnswerAlike}
use Rattle.debctl_ffi.specs.Answers.{HasStatus, counting, plain, refusing}
use Rattle.debctl_ffi.specs.Documents.{IsNoKind, kind_number}
use Rattle.deb_control.specs.GivenParagraphs.{AreNext}
use Rattle.debctl_ffi.specs.Fields.{numbered_from}
use Rattle.debctl_ffi.specs.KeptTexts.{kept_text}
use Rattle.debctl_ffi.specs.Tables.{HasTables}
use Rattle.debctl_ffi.specs.declared.answer.Answer.{Answer}
use Rattle.debctl_ffi.specs.declared.field.Tables.{Tables}
use Rattle.debctl_ffi.specs.declared.reader.Reader.{Reader}

-- ---- what was read

-- These are the first paragraphs of the file, which pass; the reader `Checked` has read them.
pub record HasRead (doc : Doc) (text : List ℕ) (paragraphs : List Seen) (state : CheckedState)
    (left : Option (List ℕ)) : Type 0 where
  pub checked : HasChecked doc text state left
  pub next : AreNext text 0 paragraphs
  pub counted : length paragraphs ≡ length checked.before

-- These are the paragraphs of the file that pass: all, or those before the first that fails.
pub record ArePassing (doc : Doc) (text : List ℕ) (paragraphs : List Seen) : Type 0 where
  pub next : AreNext text 0 paragraphs
  pub passed : length paragraphs ≡ length (outcome (rules_of doc) text).passed

-- The tables have the fields of these paragraphs, before which there are `n` others in the file.
abbrev pub ShowNext : ℕ → List Seen → Tables → Type 0
ShowNext n fresh tables = HasTables tables (numbered_from (n + 1) fresh)

-- The reader was fed these bytes, which aren't the end of the file, and has read these paragraphs
-- of it: whichever bytes follow, they are the first of the whole file, and it is read on after
-- them. In place of blank lines it may read others, which change no answer.
pub record IsFed (doc : Doc) (text : List ℕ) (given : List Seen) (reader : Reader) : Type 0 where
  pub status : reader.answer.status ≡ 0
  pub goes_on : reader.ended ≡ false
  pub is_doc : doc_read reader.checked ≡ doc
  pub sound : (checked_state reader.checked).fault ≡ None
  pub count : reader.count ≡ length given
  pub fed : reader.fed ≡ length text
  pub short : length text ≤ file_limit
  pub front : List ℕ
  pub alike : AnswerAlike text (front ++ kept_text reader.kept)
  pub reads : (more : List ℕ) → HasRead doc ((front ++ kept_text reader.kept) ++ more) given
      (checked_state reader.checked) (Some (kept_text reader.kept ++ more))

-- ---- reading on

-- After `given` these further paragraphs were read, and the tables have their fields.
pub record Reading (doc : Doc) (text : List ℕ) (given fresh : List Seen) (state : CheckedState)
    (left : Option (List ℕ)) (tables : Tables) (count : ℕ) : Type 0 where
  pub sound : state.fault ≡ None
  pub read : HasRead doc text (given ++ fresh) state left
  pub shows : ShowNext (length given) fresh tables
  pub counted : count ≡ length (given ++ fresh)

-- All paragraphs were read, and the file is accepted.
pub record ReadsAll (doc : Doc) (text : List ℕ) (given fresh : List Seen) (tables : Tables)
    (count : ℕ) : Type 0 where
  pub has : HasParagraphs doc text count
  pub all : ArePassing doc text (given ++ fresh)
  pub shows : ShowNext (length given) fresh tables

-- The file is refused after these.
pub record Refuses (doc : Doc) (text : List ℕ) (given fresh : List Seen) (refusal : Refusal)
    (tables : Tables) : Type 0 where
  pub refused : refusal_of doc text ≡ Some refusal
  pub all : ArePassing doc text (given ++ fresh)
  pub shows : ShowNext (length given) fresh tables

-- One paragraph more was read, or there is none.
pub record ReadsNext (doc : Doc) (text : List ℕ) (given fresh : List Seen) (some : Bool)
    (state : CheckedState) (left : Option (List ℕ)) (tables : Tables) (count : ℕ) : Type 0 where
  pub next : some ≡ true
      → (seen : Seen) × Reading doc text given (fresh ++ seen ∷ []) state left tables count
  pub none : some ≡ false → Reading doc text given fresh state left tables count
      × ReadsAll doc text given fresh tables count

-- Some more were read; or all; or the file is refused after some more.
pub record ReadsOn (doc : Doc) (text : List ℕ) (given : List Seen) (state : CheckedState)
    (left : Option (List ℕ)) (tables : Tables) (count : ℕ) : Type 0 where
  pub fresh : List Seen
  pub reading : Reading doc text given fresh state left tables count

pub record ReadsToEnd (doc : Doc) (text : List ℕ) (given : List Seen) (tables : Tables)
    (count : ℕ) : Type 0 where
  pub fresh : List Seen
  pub reads : ReadsAll doc text given fresh tables count

pub record RefusesOn (doc : Doc) (text : List ℕ) (given : List Seen) (refusal : Refusal)
    (tables : Tables) : Type 0 where
  pub fresh : List Seen
  pub refuses : Refuses doc text given fresh refusal tables

-- ---- what is answered

-- A reader was started for a kind of document, and was fed nothing; or no kind has the number.
pub record Starts (kind : ℕ) (answer : Answer) (reader : Reader) : Type 0 where
  pub kept : reader.answer ≡ answer
  pub done : answer.status ≡ 0 → (answer ≡ counting 0 0)
      × ((doc : Doc) × (kind ≡ kind_number doc) × IsFed doc [] [] reader)
  pub no_kind : answer.status ≡ 6 → (answer ≡ plain 6) × IsNoKind kind
  pub status : HasStatus answer.status (0 ∷ 6 ∷ [])
  pub shows : ShowNext 0 [] reader.tables

-- A piece that doesn't end the file: further paragraphs were read, whose fields are in the tables.
pub record TakesPiece (doc : Doc) (text : List ℕ) (given : List Seen) (piece : List ℕ)
    (new : Reader) : Type 0 where
  pub fresh : List Seen
  pub fed : IsFed doc (text ++ piece) (given ++ fresh) new
  pub shows : ShowNext (length given) fresh new.tables

-- The last piece: the whole file is accepted, and all its paragraphs were read.
pub record TakesLast (doc : Doc) (text : List ℕ) (given : List Seen) (piece : List ℕ)
    (new : Reader) : Type 0 where
  pub reads : ReadsToEnd doc (text ++ piece) given new.tables new.count
  pub ended : new.ended ≡ true

-- What is answered of a piece to a reader that was fed so far, and what it then has read.
pub record Feeds (doc : Doc) (text : List ℕ) (given : List Seen) (piece : List ℕ) (is_last : Bool)
    (answer : Answer) (new : Reader) : Type 0 where
  pub taken : answer.status ≡ 0 → is_last ≡ false
      → (answer ≡ counting 0 new.count) × TakesPiece doc text given piece new
  pub last : answer.status ≡ 0 → is_last ≡ true
      → (answer ≡ counting 0 new.count) × TakesLast doc text given piece new
  pub refused : answer.status ≡ 2 → (refusal : Refusal) × (answer ≡ refusing 2 refusal)
      × RefusesOn doc (text ++ piece) given refusal new.tables
  pub no_memory : answer.status ≡ 5 → (answer ≡ plain 5) × ShowNext (length given) [] new.tables
  pub status : HasStatus answer.status (0 ∷ 2 ∷ 5 ∷ [])

-- A piece for any reader. The answer is kept. After an error, and after the last piece, nothing is
-- taken, and the answer is the same again.
pub record FeedsOn (old : Reader) (piece : List ℕ) (is_last : Bool) (answer : Answer)
    (new : Reader) : Type 0 where
  pub feeds : (doc : Doc) (text : List ℕ) (given : List Seen) → IsFed doc text given old
      → Feeds doc text given piece is_last answer new
  pub kept : new.answer ≡ answer
  pub repeats : (old.ended ≡ true) ⊎ (old.answer.status ≢ 0) → (answer ≡ old.answer)
      × (new.ended ≡ old.ended) × ShowNext 0 [] new.tables
