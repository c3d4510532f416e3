-- What holds of conditions, and of what they select.
use Rattle.std.specs.Prelude.{◌≡◌, codes, ◌==◌, ◌≤◌, ◌↔◌, ◌&&◌, ◌||◌, ℕ, ◌+◌, Bool, true, false}
use Rattle.std.specs.Prelude.{not, cond, IsTrue, List, [], ◌∷◌, ◌++◌, length, None, refl}
use Rattle.std.specs.declared.cmp.Ordering.TheVariants.{Equal}
use Rattle.deb_base.specs.Bodies.{file_limit, newline}
use Rattle.deb_base.specs.Docs.{is_single}
use Rattle.deb_base.specs.declared.doc.Doc.{Doc}
use Rattle.deb_base.specs.declared.kind.Kind.{Kind}
use Rattle.deb_syntax.specs.Lines.{Paragraph, paragraphs_of}
use Rattle.deb_field.specs.Values.{SpellsKind, ValueMeaning, NameMeans, NumberMeans}
use Rattle.deb_control.specs.Documents.{Accepted, Meaning, canonical_text}
use Rattle.deb_control.specs.ValueFiles.{ValueEntries}
use Rattle.deb_select.specs.Conditions.{ConditionMeaning, IsPresent, SelectionMeaning}
use Rattle.deb_select.specs.Conditions.{compare_values, selected, selects}
use Rattle.deb_select.specs.Grammar.{SpellsCondition, condition_refusal}
use Rattle.deb_select.specs.Fields.{fields_text}
use Rattle.deb_select.specs.Forms.{FormMeaning, WholeParagraphs, TheseFields, TableOf, begun_after}
use Rattle.deb_select.specs.Forms.{output}
use Rattle.deb_select.specs.Tables.{table_text}
use Rattle.deb_select.specs.Written.{chosen, chosen_text, has_some}

-- ---- conditions

-- A text that isn't refused spells a condition, one that is refused spells none, and none spells
-- two.
pub record ReadsExactly (doc : Doc) (text : List ℕ) : Type 0 where
  pub spelled : condition_refusal doc text ≡ None
      → (condition : ConditionMeaning) × SpellsCondition doc text condition
  pub unrefused : (condition : ConditionMeaning) → SpellsCondition doc text condition
      → condition_refusal doc text ≡ None
  pub one : (first second : ConditionMeaning) → SpellsCondition doc text first
      → SpellsCondition doc text second → first ≡ second

abbrev pub TextsAreRead : Type 0
TextsAreRead = (doc : Doc) (text : List ℕ) → ReadsExactly doc text

-- Two values of a kind compare as equal exactly if they mean the same.
abbrev pub EqualityIsOfMeanings : Type 0
EqualityIsOfMeanings =
    (kind : Kind) (body other : List ℕ) (first second : ValueMeaning)
    → SpellsKind kind body first → SpellsKind kind other second
    → (compare_values first second ≡ Equal) ↔ (first ≡ second)

-- ---- what is selected

-- the numbers of the paragraphs that are selected, where so many came before; and of a whole file,
-- counted from 1
abbrev pub numbers_from : SelectionMeaning → ℕ → Meaning → List ℕ
numbers_from selection n [] = []
numbers_from selection n (values ∷ meaning) =
    cond (selects selection values) ((n + 1) ∷ numbers_from selection (n + 1) meaning)
    (numbers_from selection (n + 1) meaning)

abbrev pub selected_numbers : SelectionMeaning → Meaning → List ℕ
selected_numbers selection meaning = numbers_from selection 0 meaning

-- Of files that mean the same the same paragraphs are selected.
abbrev pub SameFilesSelectTheSame : Type 0
SameFilesSelectTheSame =
    (kind : Doc) (selection : SelectionMeaning) (first second : List ℕ) (meaning other : Meaning)
    → Accepted kind first meaning → Accepted kind second other
    → canonical_text meaning ≡ canonical_text other
    → selected_numbers selection meaning ≡ selected_numbers selection other

-- So of a file and of its canonical text.
abbrev pub CanonicalTextSelectsTheSame : Type 0
CanonicalTextSelectsTheSame =
    (kind : Doc) (selection : SelectionMeaning) (text : List ℕ) (meaning other : Meaning)
    → Accepted kind text meaning → Accepted kind (canonical_text meaning) other
    → selected_numbers selection other ≡ selected_numbers selection meaning

-- conditions, and the same negated
abbrev pub plain : List ConditionMeaning → SelectionMeaning
plain conditions = record { conditions = conditions; negated = false }

abbrev pub negated : List ConditionMeaning → SelectionMeaning
negated conditions = record { conditions = conditions; negated = true }

-- Each paragraph is selected either by conditions or by the same negated.
pub record Partitions (conditions : List ConditionMeaning) : Type 0 where
  pub each : (values : ValueEntries ValueMeaning)
      → selects (negated conditions) values ≡ not (selects (plain conditions) values)
  pub counted : (meaning : Meaning)
      → length (selected (plain conditions) meaning)
      + length (selected (negated conditions) meaning)
      ≡ length meaning

abbrev pub NegationPartitions : Type 0
NegationPartitions = (conditions : List ConditionMeaning) → Partitions conditions

-- Conditions that are joined select what both select.
pub record Intersects (first second : List ConditionMeaning) : Type 0 where
  pub each : (values : ValueEntries ValueMeaning)
      → selects (plain (first ++ second)) values
      ≡ (selects (plain first) values && selects (plain second) values)
  pub all : (meaning : Meaning)
      → selected (plain (first ++ second)) meaning
      ≡ selected (plain second) (selected (plain first) meaning)

abbrev pub JoinedConditionsIntersect : Type 0
JoinedConditionsIntersect = (first second : List ConditionMeaning) → Intersects first second

-- Selecting again changes nothing.
abbrev pub SelectedAreSelected : Type 0
SelectedAreSelected =
    (selection : SelectionMeaning) (meaning : Meaning)
    → selected selection (selected selection meaning) ≡ selected selection meaning

-- ---- what is written

-- What is written of an accepted file is accepted, unless it is too long, and means what is
-- selected. A kind of document that has one paragraph needs that one.
abbrev pub SelectedTextIsAccepted : Type 0
SelectedTextIsAccepted =
    (kind : Doc) (selection : SelectionMeaning) (text : List ℕ) (meaning : Meaning)
    → Accepted kind text meaning
    → (IsTrue (is_single kind) → length (selected selection meaning) ≡ 1)
    → length (chosen_text false selection meaning (paragraphs_of text)) ≤ file_limit
    → Accepted kind (chosen_text false selection meaning (paragraphs_of text))
    (selected selection meaning)

-- Selecting from it again changes no byte.
abbrev pub SelectedTextIsItsOwn : Type 0
SelectedTextIsItsOwn =
    (kind : Doc) (selection : SelectionMeaning) (text : List ℕ) (meaning : Meaning)
    → Accepted kind text meaning
    → chosen_text false selection (selected selection meaning)
    (paragraphs_of (chosen_text false selection meaning (paragraphs_of text)))
    ≡ chosen_text false selection meaning (paragraphs_of text)

-- The text of two files is that of the first, and that of the second after it.
abbrev pub FilesFollow : Type 0
FilesFollow =
    (selection : SelectionMeaning) (begun : Bool) (first second : Meaning)
    (paragraphs others : List Paragraph) → length first ≡ length paragraphs
    → chosen_text begun selection (first ++ second) (paragraphs ++ others)
    ≡ chosen_text begun selection first paragraphs
    ++ chosen_text (begun || has_some (chosen selection first paragraphs)) selection second others

-- paragraphs, of which the second one has no size
abbrev sized : ValueEntries ValueMeaning
sized = (codes "Package", NameMeans (codes "aa")) ∷ (codes "Size", NumberMeans 7) ∷ []

abbrev three : Meaning
three = sized ∷ ((codes "Package", NameMeans (codes "bb")) ∷ []) ∷ sized ∷ []

abbrev has_size : List ConditionMeaning
has_size = record { name = codes "Size"; test = IsPresent } ∷ []

worked-numbers : (selected_numbers (plain has_size) three ≡ 1 ∷ 3 ∷ [])
    × (selected_numbers (negated has_size) three ≡ 2 ∷ [])
    × (selected_numbers (plain []) three ≡ 1 ∷ 2 ∷ 3 ∷ [])
    × (selected_numbers (negated []) three ≡ [])
    × (numbers_from (plain has_size) 7 three ≡ 8 ∷ 10 ∷ [])
worked-numbers = (refl, refl, refl, refl, refl)

-- ---- the forms of output

-- The output of whole paragraphs is the text of those that are selected.
abbrev pub WholeOutputIsText : Type 0
WholeOutputIsText =
    (begun : Bool) (selection : SelectionMeaning) (meaning : Meaning) (paragraphs : List Paragraph)
    → output WholeParagraphs begun selection meaning paragraphs
    ≡ chosen_text begun selection meaning paragraphs

-- That of fields is the text of these fields of them.
abbrev pub FieldsOutputIsText : Type 0
FieldsOutputIsText =
    (names : List (List ℕ)) (begun : Bool) (selection : SelectionMeaning) (meaning : Meaning)
    (paragraphs : List Paragraph)
    → output (TheseFields names) begun selection meaning paragraphs
    ≡ fields_text names begun selection meaning paragraphs

-- That of a table is a function of the meaning, where each has its paragraph.
abbrev pub TableIsOfMeanings : Type 0
TableIsOfMeanings =
    (names : List (List ℕ)) (begun : Bool) (selection : SelectionMeaning) (meaning : Meaning)
    (paragraphs : List Paragraph) → length meaning ≤ length paragraphs
    → output (TableOf names) begun selection meaning paragraphs
    ≡ table_text names selection meaning

-- how many newlines a text has
abbrev pub newlines_in : List ℕ → ℕ
newlines_in [] = 0
newlines_in (b ∷ bs) = cond (b == newline) (newlines_in bs + 1) (newlines_in bs)

-- A table has one line for each paragraph that is selected: no byte of a file ends a line of it.
abbrev pub TableLinesAreSelected : Type 0
TableLinesAreSelected =
    (names : List (List ℕ)) (selection : SelectionMeaning) (meaning : Meaning)
    → newlines_in (table_text names selection meaning) ≡ length (selected selection meaning)

worked-newlines : newlines_in (codes "a\nb\n\nc") ≡ 3
worked-newlines = refl

-- In each form the output of two files is that of the first, and that of the second after it.
abbrev pub OutputsFollow : Type 0
OutputsFollow =
    (form : FormMeaning) (begun : Bool) (selection : SelectionMeaning) (first second : Meaning)
    (paragraphs others : List Paragraph) → length first ≡ length paragraphs
    → output form begun selection (first ++ second) (paragraphs ++ others)
    ≡ output form begun selection first paragraphs
    ++ output form (begun_after form begun selection first paragraphs) selection second others
