-- What a call that writes the selected paragraphs of a file does: this project's own.
use Rattle.std.specs.Prelude.{◌≡◌, ℕ, ◌+◌, Bool, true, false, refl, List, ◌++◌, length, Option}
use Rattle.std.specs.Prelude.{Some, Result, Ok, Err}
use Rattle.std.specs.Io.KnownBytes.{Appends}
use Rattle.deb_base.specs.Devices.{AppendsFront}
use Rattle.deb_base.specs.declared.doc.Doc.{Doc}
use Rattle.deb_base.specs.declared.fault.Fault.{Fault}
use Rattle.deb_base.specs.declared.fault.Fault.TheVariants.{Refused, Memory, Read, Write}
use Rattle.deb_base.specs.declared.refusal.Refusal.{Refusal}
use Rattle.deb_syntax.specs.Answers.{paragraphs_within}
use Rattle.deb_syntax.specs.Lines.{Paragraph, paragraphs_of}
use Rattle.deb_syntax.specs.Meaning.{Entries}
use Rattle.deb_field.specs.Values.{SpellsValue, ValueMeaning}
use Rattle.deb_control.specs.Documents.{Accepted, Meaning, refusal_of, rules_of}
use Rattle.deb_control.specs.Refusals.{outcome}
use Rattle.deb_control.specs.ValueFiles.{SpellsEntries, ValueEntries}
use Rattle.deb_select.specs.Conditions.{SelectionMeaning, selected, selects}
use Rattle.deb_select.specs.Forms.{FormMeaning, begins, begins_if, begun_after, fills, fills_if}
use Rattle.deb_select.specs.Forms.{full_in, output, piece, piece_if}
use Rattle.deb_select.specs.declared.writing.Outcome.{Outcome}
use Rattle.deb_select.specs.declared.writing.Piece.{Piece}
use Rattle.deb_select.specs.declared.writing.Put.{Put}

-- what is asked: the kind of the file, the conditions, what is written of each paragraph, and
-- whether one was written before
pub record Request : Type 0 where
  pub kind : Doc
  pub selection : SelectionMeaning
  pub form : FormMeaning
  pub begun : Bool

-- The file is accepted, so many of its paragraphs are selected, and exactly these were written. The
-- call says whether a paragraph was written by it or before it, and whether the table has no gaps.
pub record WritesSelected (asked : Request) (text : List ℕ) (done : Outcome)
    (old new : Option (List ℕ)) : Type 0 where
  pub meaning : Meaning
  pub accepted : Accepted asked.kind text meaning
  pub counted : done.count ≡ length (selected asked.selection meaning)
  pub filled : done.full ≡ full_in asked.form asked.selection meaning
  pub started : done.begun
      ≡ begun_after asked.form asked.begun asked.selection meaning (paragraphs_of text)
  pub written : Appends old new
      (output asked.form asked.begun asked.selection meaning (paragraphs_of text))

-- The first paragraphs of the file pass, and mean this.
pub record AreFirst (kind : Doc) (text : List ℕ) (first : Meaning) : Type 0 where
  pub bodies : List Entries
  pub more : List Entries
  pub passed : (outcome (rules_of kind) text).passed ≡ bodies ++ more
  pub spelled : SpellsEntries (SpellsValue kind) bodies first

-- Of first paragraphs that pass exactly the selected ones were written, or a prefix of those.
pub record WritesFirst (asked : Request) (text : List ℕ) (old new : Option (List ℕ)) : Type 0 where
  pub first : Meaning
  pub are : AreFirst asked.kind text first
  pub written : Appends old new
      (output asked.form asked.begun asked.selection first (paragraphs_within text))

pub record WritesPart (asked : Request) (text : List ℕ) (old new : Option (List ℕ)) : Type 0 where
  pub first : Meaning
  pub are : AreFirst asked.kind text first
  pub written : AppendsFront old new
      (output asked.form asked.begun asked.selection first (paragraphs_within text))

-- The file is refused so, and of all paragraphs before the first that is refused exactly the
-- selected ones were written.
pub record WritesRefused (asked : Request) (text : List ℕ) (refusal : Refusal)
    (old new : Option (List ℕ)) : Type 0 where
  pub refused : refusal_of asked.kind text ≡ Some refusal
  pub first : Meaning
  pub spelled : SpellsEntries (SpellsValue asked.kind) (outcome (rules_of asked.kind) text).passed
      first
  pub written : Appends old new
      (output asked.form asked.begun asked.selection first (paragraphs_within text))

-- how many were written after one more paragraph, if it was
abbrev pub count_after : ℕ → Bool → ℕ
count_after count true = count + 1
count_after count false = count

-- Ok: the text of a paragraph of this meaning was written, and the answer is whether the next one
-- is separated from it, and whether it has all the fields of the table. Out of memory: nothing was
-- written. A failed write: a prefix was.
abbrev pub PutsPiece : FormMeaning → Bool → ValueEntries ValueMeaning → Paragraph
    → Result Piece Fault → Option (List ℕ) → Option (List ℕ) → Type 0
PutsPiece form begun values p (Ok done) old new =
    (done.begun ≡ begins form begun p) × (done.full ≡ fills form values)
    × Appends old new (piece form begun values p)
PutsPiece form begun values p (Err (Refused refusal)) old new = ⊥
PutsPiece form begun values p (Err Memory) old new = old ≡ new
PutsPiece form begun values p (Err Read) old new = ⊥
PutsPiece form begun values p (Err Write) old new =
    AppendsFront old new (piece form begun values p)

-- The same of a paragraph that is selected or isn't: the answer says which, and then that.
abbrev pub PutsSelected : FormMeaning → Bool → SelectionMeaning → ValueEntries ValueMeaning
    → Paragraph → Result Put Fault → Option (List ℕ) → Option (List ℕ) → Type 0
PutsSelected form begun selection values p (Ok done) old new =
    (done.selected ≡ selects selection values)
    × (done.begun ≡ begins_if form begun selection values p)
    × (done.full ≡ fills_if form selection values)
    × Appends old new (piece_if form begun selection values p)
PutsSelected form begun selection values p (Err (Refused refusal)) old new = ⊥
PutsSelected form begun selection values p (Err Memory) old new = old ≡ new
PutsSelected form begun selection values p (Err Read) old new = ⊥
PutsSelected form begun selection values p (Err Write) old new =
    AppendsFront old new (piece_if form begun selection values p)

-- out of memory or a failed write
abbrev pub IsWritersFault : {T : Type 0} → Result T Fault → Type 0
IsWritersFault (Ok put) = Unit {0}
IsWritersFault (Err (Refused refusal)) = ⊥
IsWritersFault (Err Memory) = Unit {0}
IsWritersFault (Err Read) = ⊥
IsWritersFault (Err Write) = Unit {0}

-- A fact for an answer says something of that answer.
worked-answers : (form : FormMeaning) (begun : Bool) (selection : SelectionMeaning)
    (values : ValueEntries ValueMeaning) (p : Paragraph) (old new : Option (List ℕ))
    → (PutsSelected form begun selection values p (Err Memory) old new → old ≡ new)
    × (PutsSelected form begun selection values p (Err Write) old new
    → AppendsFront old new (piece_if form begun selection values p))
    × (PutsSelected form begun selection values p (Err Read) old new → ⊥)
    × (PutsPiece form begun values p (Err Read) old new → ⊥)
    × IsWritersFault {T = Bool} (Err Write) × (IsWritersFault {T = Bool} (Err Read) → ⊥)
worked-answers form begun selection values p old new =
    (λ put. put, λ put. put, λ put. put, λ put. put, tt, λ fault. fault)

worked-counts : (count_after 3 true ≡ 4) × (count_after 3 false ≡ 3)
worked-counts = (refl, refl)
