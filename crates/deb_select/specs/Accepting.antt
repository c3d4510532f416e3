-- What a call does that writes the selected ones of the paragraphs of a file that pass, and a line
-- for each run of lines that is refused: this project's own.
use Rattle.std.specs.Prelude.{◌≡◌, ◌<◌, ◌⊎◌, ◌↔◌, ℕ, Bool, true, false, List, [], ◌∷◌, ◌++◌, length}
use Rattle.std.specs.Prelude.{map, IsErrOf, None, Option, Result, Ok, Err, codes, refl}
use Rattle.std.specs.Io.KnownBytes.{Appends}
use Rattle.std.specs.Str.{is_utf8, chars}
use Rattle.std.proofs.Math.Dec.{lit≤}
use lib.Utf8.{encode}
use Rattle.deb_base.specs.Bodies.{paragraph_limit, file_limit}
use Rattle.deb_base.specs.Devices.{AppendsFront, last_count, one_more}
use Rattle.deb_base.specs.declared.code.Code.TheVariants.{Comment, MissingField}
use Rattle.deb_base.specs.declared.doc.Doc.{Doc}
use Rattle.deb_base.specs.declared.doc.Doc.TheVariants.{Any}
use Rattle.deb_base.specs.declared.fault.Fault.{Fault}
use Rattle.deb_base.specs.declared.fault.Fault.TheVariants.{Refused, Memory, Read, Write}
use Rattle.deb_base.specs.declared.refusal.Refusal.{Refusal}
use Rattle.deb_syntax.specs.Lines.{Paragraph}
use Rattle.deb_syntax.specs.Meaning.{Entries}
use Rattle.deb_field.specs.Values.{SpellsValue}
use Rattle.deb_control.specs.Documents.{Meaning, rules_of}
use Rattle.deb_control.specs.Rules.{Rules}
use Rattle.deb_control.specs.Streams.{CheckedItem, stream_of}
use Rattle.deb_control.specs.ValueFiles.{SpellsEntries}
use Rattle.deb_select.specs.Conditions.{selected}
use Rattle.deb_select.specs.Forms.{begun_after, full_in, output}
use Rattle.deb_select.specs.Selecting.{Request}
use Rattle.deb_select.specs.declared.writing.Outcome.{Outcome}

-- ---- the paragraphs that pass

-- a paragraph that passes, and its canonical bodies
abbrev pub Passed : Type 0
Passed = Paragraph × Entries

abbrev pub paragraph_of : CheckedItem → Paragraph
paragraph_of item = record { first = item.first; lines = item.lines }

-- an item before others: one that is refused is left out
abbrev pub with_passed : Paragraph → Result Entries Refusal → List Passed → List Passed
with_passed p (Ok entries) others = (p, entries) ∷ others
with_passed p (Err refusal) others = others

abbrev pub passed_items : List CheckedItem → List Passed
passed_items [] = []
passed_items (item ∷ items) = with_passed (paragraph_of item) item.bodies (passed_items items)

-- Those of a file: those before the first that is refused, and those after it.
abbrev pub passed_by : Rules → List ℕ → List Passed
passed_by rules text = passed_items (stream_of rules text).items

abbrev pub passed_in_file : Doc → List ℕ → List Passed
passed_in_file doc text = passed_by (rules_of doc) text

-- their lines, and their canonical bodies
abbrev pub paragraphs_in : List Passed → List Paragraph
paragraphs_in passed = map (λ one. one.0) passed

abbrev pub bodies_in : List Passed → List Entries
bodies_in passed = map (λ one. one.1) passed

-- ---- what was written of them

-- These paragraphs mean this, exactly the selected ones were written, and the outcome has the rest.
pub record WritesPassed (asked : Request) (passed : List Passed) (done : Outcome)
    (old new : Option (List ℕ)) : Type 0 where
  pub meaning : Meaning
  pub spelled : SpellsEntries (SpellsValue asked.kind) (bodies_in passed) meaning
  pub counted : done.count ≡ length (selected asked.selection meaning)
  pub filled : done.full ≡ full_in asked.form asked.selection meaning
  pub started : done.begun
      ≡ begun_after asked.form asked.begun asked.selection meaning (paragraphs_in passed)
  pub written : Appends old new
      (output asked.form asked.begun asked.selection meaning (paragraphs_in passed))

-- the same of all that pass in a file
abbrev pub WritesAccepted : Request → List ℕ → Outcome → Option (List ℕ) → Option (List ℕ) → Type 0
WritesAccepted asked text done old new =
    WritesPassed asked (passed_in_file asked.kind text) done old new

-- Of the first paragraphs that pass exactly the selected ones were written, or a prefix of those;
-- others may follow.
pub record WritesFirstAccepted (asked : Request) (text : List ℕ) (old new : Option (List ℕ))
    : Type 0 where
  pub passed : List Passed
  pub more : List Passed
  pub all : passed_in_file asked.kind text ≡ passed ++ more
  pub meaning : Meaning
  pub spelled : SpellsEntries (SpellsValue asked.kind) (bodies_in passed) meaning
  pub written : Appends old new
      (output asked.form asked.begun asked.selection meaning (paragraphs_in passed))

pub record WritesPartAccepted (asked : Request) (text : List ℕ) (old new : Option (List ℕ))
    : Type 0 where
  pub passed : List Passed
  pub more : List Passed
  pub all : passed_in_file asked.kind text ≡ passed ++ more
  pub meaning : Meaning
  pub spelled : SpellsEntries (SpellsValue asked.kind) (bodies_in passed) meaning
  pub written : AppendsFront old new
      (output asked.form asked.begun asked.selection meaning (paragraphs_in passed))

-- ---- the two sinks

-- how often they have failed
pub record SinkFailures : Type 0 where
  pub writer : ℕ
  pub reports : ℕ

abbrev pub sink_failures : ℕ → ℕ → SinkFailures
sink_failures writer reports = record { writer = writer; reports = reports }

-- After Write one of them has failed once more, and after every other answer none has.
abbrev pub CountsWriteFailure : {T : Type 0} → SinkFailures → SinkFailures → Result T Fault → Type 0
CountsWriteFailure old new (Ok done) = new ≡ old
CountsWriteFailure old new (Err (Refused refusal)) = new ≡ old
CountsWriteFailure old new (Err Memory) = new ≡ old
CountsWriteFailure old new (Err Read) = new ≡ old
CountsWriteFailure old new (Err Write) =
    (new ≡ record old { writer = one_more old.writer })
    ⊎ (new ≡ record old { reports = one_more old.reports })

-- Where both counts are below their last values, Write is answered exactly where one of them rose.
abbrev pub WriteFaultIffOneFailed : {T : Type 0} → SinkFailures → SinkFailures → Result T Fault
    → Type 0
WriteFaultIffOneFailed old new result =
    old.writer < last_count → old.reports < last_count
    → (IsErrOf result Write ↔ ((old.writer < new.writer) ⊎ (old.reports < new.reports)))

-- ---- worked cases

-- all bodies are good, and Package is asked
abbrev sample : Bool → Rules
sample single = record {
  refusal = λ name body. None;
  canonical = λ name body. body;
  required = codes "Package" ∷ [];
  single = single;
}

abbrev good : ℕ → Passed
good n = (
  record { first = n; lines = codes "Package:a" ∷ [] },
  (codes "Package", codes "a") ∷ [],
)

-- a paragraph after others that are refused, one that is refused last, and where exactly one is
-- asked a second one
worked-passed : (passed_by (sample false) (codes "#\n\nPackage:a\n\nX:1\n\nPackage:a\n")
    ≡ good 3 ∷ good 7 ∷ [])
    × (passed_by (sample false) (codes "Package:a\n\n#\n") ≡ good 1 ∷ [])
    × (passed_by (sample false) (codes "#\n") ≡ [])
    × (passed_by (sample true) (codes "Package:a\n\nPackage:a\n") ≡ good 1 ∷ [])
unfolding paragraph_limit file_limit is_utf8 chars encode
worked-passed = (refl, refl, refl, refl)

worked-file : passed_in_file Any (codes "#\n") ≡ []
unfolding paragraph_limit file_limit is_utf8 chars encode
worked-file = refl

worked-parts : (paragraphs_in (good 3 ∷ good 7 ∷ [])
    ≡ record { first = 3; lines = codes "Package:a" ∷ [] }
    ∷ record { first = 7; lines = codes "Package:a" ∷ [] } ∷ [])
    × (bodies_in (good 3 ∷ [])
    ≡ ((codes "Package", codes "a") ∷ []) ∷ [])
worked-parts = (refl, refl)

worked-items : (passed_items (record {
  first = 1;
  lines = codes "#" ∷ [];
  bodies = Err (record { code = Comment; line = 1 });
} ∷ record { first = 3; lines = codes "X:1" ∷ []; bodies = Ok [] } ∷ [])
    ≡ (record { first = 3; lines = codes "X:1" ∷ [] }, []) ∷ [])
worked-items = refl

worked-counts : sink_failures 2 3 ≡ record { writer = 2; reports = 3 }
worked-counts = refl

-- what an answer says of the two sinks
worked-failures : (new : SinkFailures)
    → (CountsWriteFailure {T = Bool} (sink_failures 2 3) new (Ok true) → new ≡ sink_failures 2 3)
    × (CountsWriteFailure {T = Bool} (sink_failures 2 3) new (Err Memory)
    → new ≡ sink_failures 2 3)
    × (CountsWriteFailure {T = Bool} (sink_failures 2 3) new (Err Read) → new ≡ sink_failures 2 3)
    × (CountsWriteFailure {T = Bool} (sink_failures 2 3) new
    (Err (Refused (record { code = MissingField; line = 1 }))) → new ≡ sink_failures 2 3)
    × (CountsWriteFailure {T = Bool} (sink_failures 2 3) new (Err Write)
    → (new ≡ sink_failures 3 3) ⊎ (new ≡ sink_failures 2 4))
worked-failures new =
    (λ same. same, λ same. same, λ same. same, λ same. same, λ one. one)

-- and which of them rose
worked-risen : (result : Result Bool Fault) (new : SinkFailures)
    → WriteFaultIffOneFailed (sink_failures 2 3) new result
    → IsErrOf result Write → (2 < new.writer) ⊎ (3 < new.reports)
worked-risen result new says is = (says (lit≤ tt) (lit≤ tt)).0 is
