-- Laws of lines of JSON: this project's own.
use Rattle.std.specs.Prelude.{◌≡◌, ◌↔◌, ◌<◌, ◌≤◌, ◌^◌, ℕ, Bool, List, [], ◌∷◌, length, flat_map}
use Rattle.std.specs.Prelude.{Some, codes, refl}
use Rattle.serde_json.specs.Read.{read}
use Rattle.deb_base.specs.declared.doc.Doc.{Doc}
use Rattle.deb_version.specs.Places.{version_in}
use Rattle.deb_field.specs.Values.{ValueMeaning, NameMeans, VersionMeans}
use Rattle.deb_syntax.specs.Answers.{Seen}
use Rattle.deb_syntax.specs.Fields.{Field}
use Rattle.deb_syntax.specs.Lines.{Paragraph}
use Rattle.deb_control.specs.Documents.{Meaning}
use Rattle.deb_control.specs.Paragraphs.{AreValuesOf}
use Rattle.deb_control.specs.ValueFiles.{ValueEntries}
use Rattle.deb_select.specs.Conditions.{SelectionMeaning, selected}
use Rattle.deb_select.specs.FieldBodies.{body_named}
use Rattle.deb_select.specs.Forms.{JsonLines, output}
use Rattle.deb_select.specs.JsonLines.{paragraph_json}
use Rattle.deb_select.specs.JsonTokens.{json_text, paragraph_tokens}
use Rattle.deb_select.specs.Laws.{newlines_in}

-- Each line reads back, as `serde_json` reads, to exactly the value of the paragraph's meaning.
abbrev pub JsonLinesReadBack : Type 0
JsonLinesReadBack =
    (line : ℕ) (fields : List Field) (values : ValueEntries ValueMeaning) → line < 2 ^ 64
    → read (json_text line fields values) ≡ Some (paragraph_json line fields values)

-- The output has one line for each paragraph that is selected: no byte of a file ends a line of it.
abbrev pub JsonLinesAreSelected : Type 0
JsonLinesAreSelected =
    (begun : Bool) (selection : SelectionMeaning) (meaning : Meaning) (paragraphs : List Paragraph)
    → length meaning ≤ length paragraphs
    → newlines_in (output JsonLines begun selection meaning paragraphs)
    ≡ length (selected selection meaning)

-- Two lines are equal exactly if their tokens are: the text of no value is taken for another token.
abbrev pub JsonLinesTellTokens : Type 0
JsonLinesTellTokens =
    (seen other : Seen) (values others : ValueEntries ValueMeaning) → seen.first < 2 ^ 64
    → other.first < 2 ^ 64
    → (json_text seen.first seen.fields values ≡ json_text other.first other.fields others)
    ↔ (paragraph_tokens seen.first seen.fields values
    ≡ paragraph_tokens other.first other.fields others)

-- the body of a field that is a version, and those of a paragraph with these fields in the file
abbrev pub spelled_version : List ℕ → ValueMeaning → List (List ℕ)
spelled_version body (VersionMeans version) = body ∷ []
spelled_version body other = []

abbrev pub spelled_entry : List Field → List ℕ × ValueMeaning → List (List ℕ)
spelled_entry fields entry = spelled_version (body_named entry.0 fields) entry.1

abbrev pub spelled_versions : List Field → ValueEntries ValueMeaning → List (List ℕ)
spelled_versions fields values = flat_map (spelled_entry fields) values

-- Two paragraphs of one kind of document have equal lines exactly if they mean the same, begin at
-- the same line and spell their versions alike.
abbrev pub JsonLinesTellMeanings : Type 0
JsonLinesTellMeanings =
    (doc : Doc) (seen other : Seen) (values others : ValueEntries ValueMeaning)
    → AreValuesOf doc seen values → AreValuesOf doc other others
    → seen.first < 2 ^ 64 → other.first < 2 ^ 64
    → (json_text seen.first seen.fields values ≡ json_text other.first other.fields others)
    ↔ ((values ≡ others) × (seen.first ≡ other.first)
    × (spelled_versions seen.fields values ≡ spelled_versions other.fields others))

worked-versions : spelled_versions
    (record { name = codes "version"; line = 2; body = codes "0:1.00" }
    ∷ record { name = codes "Package"; line = 1; body = codes "aa" } ∷ [])
    ((codes "Package", NameMeans (codes "aa"))
    ∷ (codes "Version", VersionMeans (version_in (codes "0:1.00"))) ∷ []) ≡ codes "0:1.00" ∷ []
worked-versions = refl
