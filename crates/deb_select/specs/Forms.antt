-- What is written of each paragraph that is selected: this project's own.
use Rattle.std.specs.Prelude.{◌≡◌, ℕ, ◌||◌, Bool, true, false, cond, List, [], ◌∷◌, ◌++◌, map}
use Rattle.std.specs.Prelude.{codes, refl}
use Rattle.deb_base.specs.Bodies.{newline, paragraph_limit}
use Rattle.deb_base.specs.Literals.{vector}
use Rattle.deb_version.specs.Places.{version_in}
use Rattle.deb_syntax.specs.Lines.{Paragraph, paragraphs_of, with_newlines}
use Rattle.deb_field.specs.Values.{ValueMeaning, NameMeans, VersionMeans}
use Rattle.deb_control.specs.Documents.{Meaning}
use Rattle.deb_control.specs.ValueFiles.{ValueEntries}
use Rattle.deb_select.specs.Conditions.{IsPresent, SelectionMeaning, selects}
use Rattle.deb_select.specs.FieldBodies.{fields_in}
use Rattle.deb_select.specs.Fields.{fields_lines}
use Rattle.deb_select.specs.JsonTokens.{json_line}
use Rattle.deb_select.specs.Tables.{has_fields, is_full, row}
use Rattle.deb_select.specs.Written.{gap}
use Rattle.deb_select.specs.declared.form.Form.{Form}
use Rattle.deb_select.specs.declared.form.Form.TheVariants.{Paragraphs, Fields, Table, Json}
use Rattle.deb_select.specs.declared.form.Form.TheVariants.{Nothing}

-- whole paragraphs, some fields of each, a line of a table or of JSON for each, or nothing
pub data FormMeaning : Type 0 where
  WholeParagraphs : FormMeaning
  TheseFields : List (List ℕ) → FormMeaning
  TableOf : List (List ℕ) → FormMeaning
  JsonLines : FormMeaning
  NoOutput : FormMeaning

abbrev pub form_shown : Form → FormMeaning
form_shown Paragraphs = WholeParagraphs
form_shown (Fields names) = TheseFields (map (λ name. name.items) names.items)
form_shown (Table names) = TableOf (map (λ name. name.items) names.items)
form_shown Json = JsonLines
form_shown Nothing = NoOutput

-- a text after what separates it from those before it, if it isn't empty
abbrev pub after_gap : Bool → List ℕ → List ℕ
after_gap begun [] = []
after_gap begun (b ∷ bs) = gap begun ++ b ∷ bs

abbrev pub has_bytes : List ℕ → Bool
has_bytes [] = false
has_bytes (b ∷ bs) = true

-- what is written of a paragraph with these values, where `begun` says whether one was written
-- before
abbrev pub piece : FormMeaning → Bool → ValueEntries ValueMeaning → Paragraph → List ℕ
piece WholeParagraphs begun values p = gap begun ++ with_newlines p.lines
piece (TheseFields names) begun values p =
    after_gap begun (with_newlines (fields_lines names p.lines))
piece (TableOf names) begun values p = row names values ++ newline ∷ []
piece JsonLines begun values p = json_line p.first (fields_in p) values
piece NoOutput begun values p = []

-- and whether the next one is separated from it
abbrev pub begins : FormMeaning → Bool → Paragraph → Bool
begins WholeParagraphs begun p = true
begins (TheseFields names) begun p =
    begun || has_bytes (with_newlines (fields_lines names p.lines))
begins (TableOf names) begun p = begun
begins JsonLines begun p = begun
begins NoOutput begun p = begun

-- and whether it has all the fields of the table, in that form
abbrev pub fills : FormMeaning → ValueEntries ValueMeaning → Bool
fills WholeParagraphs values = true
fills (TheseFields names) values = true
fills (TableOf names) values = has_fields names values
fills JsonLines values = true
fills NoOutput values = true

-- the same of a paragraph that is selected or isn't
abbrev pub piece_if : FormMeaning → Bool → SelectionMeaning → ValueEntries ValueMeaning → Paragraph
    → List ℕ
piece_if form begun selection values p =
    cond (selects selection values) (piece form begun values p) []

abbrev pub begins_if : FormMeaning → Bool → SelectionMeaning → ValueEntries ValueMeaning
    → Paragraph → Bool
begins_if form begun selection values p =
    cond (selects selection values) (begins form begun p) begun

abbrev pub fills_if : FormMeaning → SelectionMeaning → ValueEntries ValueMeaning → Bool
fills_if form selection values = cond (selects selection values) (fills form values) true

-- what is written of paragraphs of which the first ones mean this
abbrev pub output : FormMeaning → Bool → SelectionMeaning → Meaning → List Paragraph → List ℕ
output form begun selection [] paragraphs = []
output form begun selection (values ∷ meaning) [] = []
output form begun selection (values ∷ meaning) (p ∷ paragraphs) =
    piece_if form begun selection values p
    ++ output form (begins_if form begun selection values p) selection meaning paragraphs

-- and whether one was written then
abbrev pub begun_after : FormMeaning → Bool → SelectionMeaning → Meaning → List Paragraph → Bool
begun_after form begun selection [] paragraphs = begun
begun_after form begun selection (values ∷ meaning) [] = begun
begun_after form begun selection (values ∷ meaning) (p ∷ paragraphs) =
    begun_after form (begins_if form begun selection values p) selection meaning paragraphs

-- whether each that is selected has all the fields of the table, in that form
abbrev pub full_in : FormMeaning → SelectionMeaning → Meaning → Bool
full_in WholeParagraphs selection meaning = true
full_in (TheseFields names) selection meaning = true
full_in (TableOf names) selection meaning = is_full names selection meaning
full_in JsonLines selection meaning = true
full_in NoOutput selection meaning = true

-- two paragraphs, of which one has no version
abbrev two : List Paragraph
two = paragraphs_of (codes "package:aa \nversion: 1.0\n\nPackage: bb")

abbrev means : Meaning
means =
    ((codes "Package", NameMeans (codes "aa"))
    ∷ (codes "Version", VersionMeans (version_in (codes "1.0"))) ∷ [])
    ∷ ((codes "Package", NameMeans (codes "bb")) ∷ []) ∷ []

abbrev all : SelectionMeaning
all = record { conditions = []; negated = false }

worked-output : (output WholeParagraphs false all means two
    ≡ codes "package:aa \nversion: 1.0\n\nPackage: bb\n")
    × (output (TheseFields (codes "Version" ∷ codes "Package" ∷ [])) false all means two
    ≡ codes "version: 1.0\npackage:aa \n\nPackage: bb\n")
    × (output (TheseFields (codes "Version" ∷ [])) false all means two ≡ codes "version: 1.0\n")
    × (output (TableOf (codes "Version" ∷ codes "Package" ∷ [])) true all means two
    ≡ codes "1.0\taa\n\tbb\n")
    × (output NoOutput true all means two ≡ [])
unfolding paragraph_limit
worked-output = (refl, refl, refl, refl, refl)

-- Nothing begins no output.
worked-begun : (begun_after WholeParagraphs false all means two ≡ true)
    × (begun_after (TheseFields (codes "Size" ∷ [])) false all means two ≡ false)
    × (begun_after (TheseFields (codes "Version" ∷ [])) false all means two ≡ true)
    × (begun_after (TableOf (codes "Package" ∷ [])) false all means two ≡ false)
    × (begun_after JsonLines false all means two ≡ false)
    × (begun_after NoOutput false all means two ≡ false)
    × (begun_after NoOutput true all means two ≡ true)
unfolding paragraph_limit
worked-begun = (refl, refl, refl, refl, refl, refl, refl)

worked-full : (full_in (TableOf (codes "package" ∷ [])) all means ≡ true)
    × (full_in (TableOf (codes "Package" ∷ codes "Version" ∷ [])) all means ≡ false)
    × (full_in (TheseFields (codes "Version" ∷ [])) all means ≡ true)
    × (full_in WholeParagraphs all means ≡ true) × (full_in JsonLines all means ≡ true)
    × (full_in NoOutput all means ≡ true)
worked-full = (refl, refl, refl, refl, refl, refl)

worked-shown : (map form_shown (Paragraphs ∷ Json ∷ Nothing ∷ [])
    ≡ WholeParagraphs ∷ JsonLines ∷ NoOutput ∷ [])
    × (form_shown (Fields (vector (vector (codes "Tag") refl ∷ vector [] refl ∷ []) refl))
    ≡ TheseFields (codes "Tag" ∷ [] ∷ []))
    × (form_shown (Table (vector (vector (codes "Size") refl ∷ []) refl))
    ≡ TableOf (codes "Size" ∷ []))
worked-shown = (refl, refl, refl)

-- what has no version
abbrev bb : ValueEntries ValueMeaning
bb = (codes "Package", NameMeans (codes "bb")) ∷ []

abbrev each_form : List (List ℕ) → List FormMeaning
each_form names = WholeParagraphs ∷ TheseFields names ∷ JsonLines ∷ NoOutput ∷ TableOf names ∷ []

worked-fills : (map (λ form. fills form bb) (each_form (codes "Package" ∷ []))
    ≡ true ∷ true ∷ true ∷ true ∷ true ∷ [])
    × (map (λ form. fills form bb) (each_form (codes "Package" ∷ codes "Version" ∷ []))
    ≡ true ∷ true ∷ true ∷ true ∷ false ∷ [])
worked-fills = (refl, refl)

-- What isn't selected lacks no field.
abbrev versioned : Bool → SelectionMeaning
versioned negated = record {
  conditions = record { name = codes "Version"; test = IsPresent } ∷ [];
  negated = negated;
}

worked-fills_if : (fills_if (TableOf (codes "Version" ∷ [])) (versioned false) bb ≡ true)
    × (fills_if (TableOf (codes "Version" ∷ [])) (versioned true) bb ≡ false)
    × (fills_if (TableOf (codes "Package" ∷ [])) (versioned true) bb ≡ true)
    × (fills_if JsonLines (versioned true) bb ≡ true)
worked-fills_if = (refl, refl, refl, refl)
