-- The words and the relations of a paragraph that are kept while it is checked. Debian Policy 5.6
-- and 7.1.
use Rattle.std.specs.Prelude.{◌≡◌, ℕ, ◌<◌, ◌≤◌, List, [], length, drop, take, get_or, Option, codes, refl, ◌∷◌, ◌++◌, replicate}
use Rattle.deb_base.specs.Kinds.{known_row, row_count}
use Rattle.deb_relation.specs.Regular.{IsRegularRelation}
use Rattle.deb_relation.specs.Texts.{relation_text}
use Rattle.deb_field.specs.Values.{ValueMeaning}
use Rattle.deb_control.specs.FieldWords.{groups_of, value_under, word_of, word_under}
use Rattle.deb_control.specs.ShownValues.{shown_of}
use Rattle.deb_control.specs.ValueFiles.{ValueEntries}
use Rattle.deb_control.specs.Visiting.{Visit}
use Rattle.deb_control.specs.declared.field_texts.FieldTexts.{FieldTexts}
use Rattle.deb_control.specs.declared.field_texts.TextSpan.{TextSpan}
use Rattle.deb_base.specs.Literals.{vector}

-- the bytes from one offset up to another
abbrev pub part_of : List ℕ → (from to : ℕ) → List ℕ
part_of bytes from to = drop from (take to bytes)

-- where the texts of the field in a row of the table of fields are
abbrev pub span_at : FieldTexts → ℕ → TextSpan
span_at texts row = get_or texts.spans row (record { start = 0; word_end = 0; end = 0 })

-- its word, and the text of its relation
abbrev pub word_at : FieldTexts → ℕ → List ℕ
word_at texts row =
    part_of texts.buffer.items (span_at texts row).start (span_at texts row).word_end

abbrev pub relation_at : FieldTexts → ℕ → List ℕ
relation_at texts row =
    part_of texts.buffer.items (span_at texts row).word_end (span_at texts row).end

-- those of the field with a name
abbrev pub word_kept : FieldTexts → List ℕ → List ℕ
word_kept texts name = word_at texts (known_row name)

abbrev pub relation_kept : FieldTexts → List ℕ → List ℕ
relation_kept texts name = relation_at texts (known_row name)

-- In a row are the texts of a value, or nothing if there is none.
pub record KeepsText (texts : FieldTexts) (row : ℕ) (value : Option ValueMeaning) : Type 0 where
  pub word_within : (span_at texts row).word_end ≤ length texts.buffer.items
  pub within : (span_at texts row).end ≤ length texts.buffer.items
  pub word : word_at texts row ≡ word_of value
  pub relation : relation_at texts row ≡ relation_text (groups_of value)

-- For each name of the table of fields they are those of the value that was visited last.
pub record KeepsTexts (texts : FieldTexts) (visited : List Visit) : Type 0 where
  pub rows : length texts.spans ≡ row_count
  pub each : (name : List ℕ) → known_row name < row_count
      → KeepsText texts (known_row name) (shown_of visited name)

-- For each name they are those of the paragraph's value, and its relation has a canonical text.
pub record HasTexts (texts : FieldTexts) (values : ValueEntries ValueMeaning) : Type 0 where
  pub word : (name : List ℕ) → word_kept texts name ≡ word_under name values
  pub relation : (name : List ℕ)
      → relation_kept texts name ≡ relation_text (groups_of (value_under name values))
  pub regular : (name : List ℕ) → IsRegularRelation (groups_of (value_under name values))

-- `Architecture` is in row 0, however it is spelled, and `Provides` in row 35
abbrev nowhere : TextSpan
nowhere = record { start = 0; word_end = 0; end = 0 }

abbrev two_texts : FieldTexts
two_texts = record {
  buffer = vector (codes "allaa, bb") refl;
  spans = record { start = 0; word_end = 3; end = 3 }
      ∷ (replicate 34 nowhere ++ record { start = 3; word_end = 3; end = 9 } ∷ []);
}

worked-texts : (span_at two_texts 35 ≡ record { start = 3; word_end = 3; end = 9 })
    × (word_kept two_texts (codes "aRCHITECTURE") ≡ codes "all")
    × (relation_kept two_texts (codes "Architecture") ≡ [])
    × (relation_kept two_texts (codes "Provides") ≡ codes "aa, bb")
    × (word_kept two_texts (codes "Package") ≡ [])
unfolding known_row
worked-texts = (refl, refl, refl, refl, refl)

parts : (part_of (codes "abc") 1 2 ≡ codes "b") × (part_of (codes "abc") 1 9 ≡ codes "bc")
    × (part_of (codes "abc") 2 1 ≡ [])
parts = (refl, refl, refl)
