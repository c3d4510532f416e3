-- What a reader of checked paragraphs is to its callers, which texts fit it, and what its calls say
-- of them (Debian Policy 5.1; the limits and the order of the refusals are this project's own).
use Rattle.std.specs.Prelude.{◌≡◌, ℕ, ◌+◌, ◌≤◌, Bool, true, false, List, [], ◌∷◌, ◌++◌, length, map, Option, Some, None, IfSome, IfNone, IsSome, IsTrue, ◌⊎◌, Result, Ok, Err, is_ok, IfOk, IfErr, MatchResult, codes, refl}
use Rattle.std.proofs.Common.{subst}
use Rattle.std.specs.Option.{option_map}
use Rattle.std.specs.Str.{bytes_eq}
use Rattle.deb_base.specs.Bodies.{paragraph_limit, file_limit}
use Rattle.deb_base.specs.Codes.{number_of}
use Rattle.deb_base.specs.Devices.{Shown, read_failures_after}
use Rattle.deb_base.specs.Faults.{IsReadersFault}
use Rattle.deb_base.specs.declared.fault.Fault.{Fault}
use Rattle.deb_base.specs.declared.fault.Fault.TheVariants.{Refused, Memory, Read, Write}
use Rattle.deb_base.specs.declared.refusal.Refusal.{Refusal}
use Rattle.deb_base.specs.Reading.{TakesNoMore}
use Rattle.deb_syntax.specs.Answers.{Seen, next_answer}
use Rattle.deb_syntax.specs.Meaning.{Entries}
use Rattle.deb_syntax.specs.Paragraphs.{IsQuiet}
use Rattle.deb_syntax.specs.Reading.{State, Fits, passed_count}
use Rattle.deb_base.specs.declared.doc.Doc.{Doc}
use Rattle.deb_base.specs.declared.doc.Doc.TheVariants.{Any, Packages}
use Rattle.deb_control.specs.Calls.{IfRefused}
use Rattle.deb_control.specs.Canonical.{paragraph_text, file_text}
use Rattle.deb_control.specs.Documents.{rules_of}
use Rattle.deb_control.specs.Refused.{seen_given}
use Rattle.deb_control.specs.Refusals.{Answered, built, next_checked, next_given, passed_in}
use Rattle.deb_control.specs.Rules.{Rules}
use Rattle.deb_base.specs.declared.code.Code.TheVariants.{MissingField}

-- A paragraph that passes: what was seen of it, and its canonical text.
pub record Passing : Type 0 where
  pub seen : Seen
  pub text : List ℕ

-- A reader of checked paragraphs: its reader of paragraphs, how many paragraphs it has given and
-- how long their canonical text is as a file, the paragraph that it gave last, and the error.
pub record CheckedState : Type 0 where
  pub reader : State
  pub count : ℕ
  pub bytes : ℕ
  pub current : Option Seen
  pub fault : Option Fault

-- its reader of paragraphs reads nothing, or there is an error: nothing is read
abbrev pub IsQuietChecked : CheckedState → Type 0
IsQuietChecked state = IsQuiet state.reader ⊎ IsSome state.fault

-- After `front`, these are the canonical bodies of the next paragraphs of a file: each is the
-- answer after those before it.
abbrev pub Follow : Rules → List ℕ → List Entries → List Entries → Type 0
Follow rules text front [] = Unit {0}
Follow rules text front (entries ∷ more) =
    (next_checked rules text front ≡ Ok (Some entries))
    × Follow rules text (front ++ entries ∷ []) more

-- the same by what was answered of each, where some may be refused
abbrev pub whole_answer : Answered → Result (Option Entries) Refusal
whole_answer (Ok entries) = Ok (Some entries)
whole_answer (Err refusal) = Err refusal

abbrev pub FollowGiven : Rules → List ℕ → List Answered → List Answered → Type 0
FollowGiven rules text front [] = Unit {0}
FollowGiven rules text front (answer ∷ more) =
    (next_given rules text front ≡ whole_answer answer)
    × FollowGiven rules text (front ++ answer ∷ []) more

-- A file fits where this was answered of its first paragraphs, which are those that its reader of
-- paragraphs has passed: of each that passes its canonical bodies, and of each after which the
-- reader went on, why it is refused.
pub record FitsChecked (doc : Doc) (text : List ℕ) (answered : List Answered)
    (state : CheckedState) (left : Option (List ℕ)) : Type 0 where
  pub passed : List ℕ
  pub fits : Fits text passed state.reader left
  pub given : FollowGiven (rules_of doc) text [] answered
  pub paragraphs : passed_count passed ≡ length answered
  pub counted : state.count ≡ length (passed_in answered)
  pub bytes : state.bytes ≡ length (file_text (passed_in answered))

-- none of these was refused
abbrev pub all_pass : List Entries → List Answered
all_pass before = map (λ entries. Ok entries) before

-- The first paragraphs of the file were given.
pub record HasChecked (doc : Doc) (text : List ℕ) (state : CheckedState)
    (left : Option (List ℕ)) : Type 0 where
  pub before : List Entries
  pub fits : FitsChecked doc text (all_pass before) state left

-- The next paragraph of a file passes after these, and was given: no further one has been.
pub record GivesPassing (doc : Doc) (text : List ℕ) (answered : List Answered) (given : Passing)
    (new : CheckedState) (left : Option (List ℕ)) : Type 0 where
  pub entries : Entries
  pub answer : next_given (rules_of doc) text answered ≡ Ok (Some entries)
  pub seen : next_answer text (length answered) ≡ Ok (Some given.seen)
  pub built : built (rules_of doc) given.seen ≡ Ok entries
  pub written : given.text ≡ paragraph_text entries
  pub again : FitsChecked doc text (answered ++ Ok entries ∷ []) new left

-- No further paragraph of the file follows them.
pub record GivesEnd (doc : Doc) (text : List ℕ) (answered : List Answered) (new : CheckedState)
    (left : Option (List ℕ)) : Type 0 where
  pub answer : next_given (rules_of doc) text answered ≡ Ok None
  pub again : FitsChecked doc text answered new left

-- What an answer says of a file that fits, where this was answered before.
abbrev pub AnswersChecked : (doc : Doc) (text : List ℕ) (answered : List Answered)
    → Result (Option Passing) Fault → CheckedState → Option (List ℕ) → Type 0
AnswersChecked doc text answered (Ok None) new left = GivesEnd doc text answered new left
AnswersChecked doc text answered (Ok (Some given)) new left =
    GivesPassing doc text answered given new left
AnswersChecked doc text answered (Err (Refused refusal)) new left =
    next_given (rules_of doc) text answered ≡ Err refusal
AnswersChecked doc text answered (Err Memory) new left = Unit {0}
AnswersChecked doc text answered (Err Read) new left = Unit {0}
AnswersChecked doc text answered (Err Write) new left = ⊥

-- how many paragraphs an answer gives
abbrev pub given_count : Option Passing → ℕ
given_count None = 0
given_count (Some given) = 1

-- a refusal of a document has a code from 1 to 21, and a line
pub record IsRefusalOfDocument (refusal : Refusal) : Type 0 where
  pub least : 1 ≤ number_of refusal.code
  pub most : number_of refusal.code ≤ 21
  pub line : 1 ≤ refusal.line

-- a reader of checked paragraphs, and what its source shows
pub record CheckedMoment : Type 0 where
  pub state : CheckedState
  pub source : Shown

-- A call without error: what it answers of each file that fits, how much of it was taken by then,
-- how often its source failed, which errors there are, and how many paragraphs were given, which
-- are few for every source. After the answer that no paragraph follows nothing is read; after a
-- refusal the reader of paragraphs shows the paragraph that is refused, where its lines aren't.
pub record Checks (doc : Doc) (before : CheckedMoment) (answer : Result (Option Passing) Fault)
    (after : CheckedMoment) : Type 0 where
  pub answers : (text : List ℕ) (given : List Answered)
      → FitsChecked doc text given before.state before.source.bytes
      → AnswersChecked doc text given answer after.state after.source.bytes
  pub taken : (text : List ℕ) (given : List Answered)
      → FitsChecked doc text given before.state before.source.bytes
      → TakesNoMore text file_limit after.source.bytes
  pub counted : after.source.failures ≡ read_failures_after before.source.failures answer
  pub fault : IfErr answer (λ fault. IsReadersFault fault IsRefusalOfDocument)
  pub count : MatchResult answer
      (λ given. after.state.count ≡ before.state.count + given_count given)
      (λ fault. after.state.count ≡ before.state.count)
  pub few : after.state.count ≤ file_limit + 1
  pub finished : IfOk answer (λ given. IfNone given (IsTrue after.state.reader.finished))
  pub refused : (text : List ℕ) (given : List Answered)
      → FitsChecked doc text given before.state before.source.bytes
      → IfRefused answer
      (λ _. after.state.reader.current ≡ seen_given (rules_of doc) text given)

-- A call: without an error it goes on, and keeps the error that it then answers; with one it
-- answers that error, and neither reads nor changes.
pub record ChecksOn (doc : Doc) (before : CheckedMoment) (answer : Result (Option Passing) Fault)
    (after : CheckedMoment) : Type 0 where
  pub goes : IfNone before.state.fault (Checks doc before answer after)
  pub keeps : IfNone before.state.fault
      (MatchResult answer (λ _. after.state.fault ≡ None) (λ fault. after.state.fault ≡ Some fault))
  pub repeats : IfSome before.state.fault (λ fault. (answer ≡ Err fault) × (after ≡ before))

-- the bytes are the canonical text of what is built
abbrev pub is_text_of : Result Entries Refusal → List ℕ → Bool
is_text_of (Ok entries) text = bytes_eq text (paragraph_text entries)
is_text_of (Err refusal) text = false

-- the paragraph passes by itself, and the bytes are its canonical text
abbrev pub is_passing : Doc → Seen → List ℕ → Bool
is_passing doc seen text = is_text_of (built (rules_of doc) seen) text

-- the paragraph passes by itself
abbrev pub is_judged : Doc → Seen → Bool
is_judged doc seen = is_ok (built (rules_of doc) seen)

-- the canonical text of what is built
abbrev pub text_built : Result Entries Refusal → List ℕ
text_built (Ok entries) = paragraph_text entries
text_built (Err refusal) = []

-- a paragraph that passes by itself, with its canonical text
abbrev pub passing_seen : Doc → Seen → Passing
passing_seen doc seen = record { seen = seen; text = text_built (built (rules_of doc) seen) }

-- where there is no error, the paragraph that was found passes, if one was
abbrev pub is_found : Option Fault → Doc → Option Seen → Bool
is_found (Some fault) doc found = true
is_found None doc None = true
is_found None doc (Some seen) = is_judged doc seen

-- and it is the one that was given last
abbrev pub seen_last : Option Fault → Option Seen → Option Seen
seen_last (Some fault) found = None
seen_last None found = found

-- where there is no error, there is none inside
abbrev pub is_sound : Option Fault → Option Fault → Bool
is_sound (Some fault) inside = true
is_sound None (Some fault) = false
is_sound None None = true

-- what an answer that there is a paragraph, or none, shows by the one that was given last
abbrev pub current_answer : Doc → Option Seen → Result Bool Fault → Result (Option Passing) Fault
current_answer doc current (Ok true) = Ok (option_map (passing_seen doc) current)
current_answer doc current (Ok false) = Ok None
current_answer doc current (Err fault) = Err fault

counts_given : (given_count None ≡ 0)
    × (given_count (Some (record { seen = record { first = 4; fields = [] }; text = [] })) ≡ 1)
counts_given = (refl, refl)

answers_whole : (whole_answer (Ok ((codes "A", codes "1") ∷ []))
    ≡ Ok (Some ((codes "A", codes "1") ∷ [])))
    × (whole_answer (Err (record { code = MissingField; line = 3 }))
    ≡ Err (record { code = MissingField; line = 3 }))
answers_whole = (refl, refl)

-- for the worked cases: what is built of a paragraph, and its canonical text
abbrev entries_built : Entries
entries_built = (codes "A", codes "1") ∷ (codes "B", codes "2") ∷ []

texts_built : (text_built (Ok entries_built) ≡ codes "A: 1\nB: 2\n")
    × (text_built (Err (record { code = MissingField; line = 3 })) ≡ [])
    × (is_text_of (Ok entries_built) (codes "A: 1\nB: 2\n") ≡ true)
    × (is_text_of (Ok entries_built) (codes "A: 1\nB: 2") ≡ false)
    × (is_text_of (Err (record { code = MissingField; line = 3 })) [] ≡ false)
texts_built = (refl, refl, refl, refl, refl)

-- a paragraph without fields, which passes where no field is asked for, with no text
abbrev bare : Seen
bare = record { first = 4; fields = [] }

abbrev bare_passes : Passing
bare_passes = record { seen = bare; text = [] }

bare_paragraph : (is_judged Any bare ≡ true) × (is_judged Packages bare ≡ false)
    × (is_passing Any bare [] ≡ true) × (is_passing Any bare (codes "A") ≡ false)
    × (is_passing Packages bare [] ≡ false) × (passing_seen Any bare ≡ bare_passes)
unfolding paragraph_limit
bare_paragraph = (refl, refl, refl, refl, refl, refl)

paragraphs_found : (is_found None Packages (Some bare) ≡ false)
    × (is_found None Any (Some bare) ≡ true) × (is_found None Any None ≡ true)
    × (is_found (Some Read) Packages (Some bare) ≡ true)
    × (seen_last None (Some bare) ≡ Some bare) × (seen_last None None ≡ None)
    × (seen_last (Some Read) (Some bare) ≡ None)
unfolding paragraph_limit
paragraphs_found = (refl, refl, refl, refl, refl, refl, refl)

answers_by_current : (current_answer Any (Some bare) (Ok true) ≡ Ok (Some bare_passes))
    × (current_answer Any (Some bare) (Ok false) ≡ Ok None)
    × (current_answer Any (Some bare) (Err Read) ≡ Err Read)
unfolding paragraph_limit
answers_by_current = (refl, refl, refl)

sound_faults : (is_sound (Some Read) (Some Memory) ≡ true) × (is_sound (Some Read) None ≡ true)
    × (is_sound None (Some Read) ≡ false) × (is_sound None None ≡ true)
sound_faults = (refl, refl, refl, refl)

-- refusals of documents have the codes of texts, of paragraphs and of values
codes_of_documents : (refusal : Refusal) → IsRefusalOfDocument refusal
    → (1 ≤ number_of refusal.code) × (number_of refusal.code ≤ 21) × (1 ≤ refusal.line)
codes_of_documents refusal is = (is.least, is.most, is.line)

-- an error is answered again, and nothing changes
error_again : (doc : Doc) (before after : CheckedMoment) (fault : Fault)
    (answer : Result (Option Passing) Fault) → before.state.fault ≡ Some fault
    → ChecksOn doc before answer after → (answer ≡ Err fault) × (after ≡ before)
error_again doc before after fault answer failed call =
    subst (λ kept. IfSome kept (λ fault. (answer ≡ Err fault) × (after ≡ before))) failed
    call.repeats
