-- What is written of a paragraph of which some fields are asked for: this project's own. The lines
-- of a field are those of Debian Policy 5.1.
use Rattle.std.specs.Prelude.{◌≡◌, ℕ, ◌==◌, ◌&&◌, Bool, true, false, not, cond, List, [], ◌∷◌}
use Rattle.std.specs.Prelude.{◌++◌, codes, refl}
use Rattle.std.specs.List.{before_first}
use Rattle.std.specs.Str.{bytes_eq}
use Rattle.deb_base.specs.Bodies.{Line, begins_with_blank, paragraph_limit}
use Rattle.deb_base.specs.FieldNames.{colon}
use Rattle.deb_base.specs.Names.{folded}
use Rattle.deb_syntax.specs.Lines.{Paragraph, paragraphs_of}
use Rattle.deb_field.specs.Values.{NameMeans, NumberMeans, TextMeans}
use Rattle.deb_control.specs.Documents.{Meaning}
use Rattle.deb_select.specs.Conditions.{IsPresent, SelectionMeaning}
use Rattle.deb_select.specs.Written.{chosen, written_after}

-- whether a line is the first one of the field with a name, without ASCII case
abbrev pub begins_field : List ℕ → Line → Bool
begins_field name line =
    not (begins_with_blank line)
    && bytes_eq (folded (before_first (λ b. b == colon) line)) (folded name)

-- the continuation lines with which lines begin
abbrev pub continuations : List Line → List Line
continuations [] = []
continuations (line ∷ lines) =
    cond (begins_with_blank line) (line ∷ continuations lines) []

-- the lines of a field; none if it is absent
abbrev pub field_lines : List ℕ → List Line → List Line
field_lines name [] = []
field_lines name (line ∷ lines) =
    cond (begins_field name line) (line ∷ continuations lines) (field_lines name lines)

-- the lines of fields, in the order in which they are asked for
abbrev pub fields_lines : List (List ℕ) → List Line → List Line
fields_lines [] lines = []
fields_lines (name ∷ names) lines = field_lines name lines ++ fields_lines names lines

-- a paragraph with these fields alone, if it has any of them
abbrev pub if_some : Paragraph → List Paragraph
if_some p = with_lines p.lines
  where
    with_lines : List Line → List Paragraph
    with_lines [] = []
    with_lines (line ∷ lines) = p ∷ []

abbrev pub with_fields : List (List ℕ) → List Paragraph → List Paragraph
with_fields names [] = []
with_fields names (p ∷ paragraphs) =
    if_some (record { first = p.first; lines = fields_lines names p.lines })
    ++ with_fields names paragraphs

-- The text of the fields of the paragraphs that are selected. A paragraph that has none of them
-- leaves nothing, and no empty line.
abbrev pub fields_text : List (List ℕ) → Bool → SelectionMeaning → Meaning → List Paragraph
    → List ℕ
fields_text names begun selection meaning paragraphs =
    written_after begun (with_fields names (chosen selection meaning paragraphs))

-- three paragraphs: one with a field of two lines, one without that field, one without any of them
abbrev three : List Paragraph
three =
    paragraphs_of (codes "package:aa \nTag: x\n y\nSize: 1\n\nPACKAGE: bb\n\n"
    ++ codes "X-Package: cc\n tag: z")

abbrev written : List (List ℕ) → List ℕ
written names = written_after false (with_fields names three)

worked-fields : (written (codes "Package" ∷ []) ≡ codes "package:aa \n\nPACKAGE: bb\n")
    × (written (codes "tag" ∷ codes "Package" ∷ [])
    ≡ codes "Tag: x\n y\npackage:aa \n\nPACKAGE: bb\n")
    × (written (codes "Size" ∷ codes "Size" ∷ []) ≡ codes "Size: 1\nSize: 1\n")
    × (written (codes "Tags" ∷ codes "Ta" ∷ []) ≡ []) × (written [] ≡ [])
unfolding paragraph_limit
worked-fields = (refl, refl, refl, refl, refl)

-- and what they mean
abbrev means : Meaning
means =
    ((codes "Package", NameMeans (codes "aa")) ∷ (codes "Tag", TextMeans (codes "x\n y"))
    ∷ (codes "Size", NumberMeans 1) ∷ [])
    ∷ ((codes "Package", NameMeans (codes "bb")) ∷ [])
    ∷ ((codes "X-Package", TextMeans (codes "cc\n tag: z")) ∷ []) ∷ []

-- those with a package, or those without one
abbrev by_package : Bool → SelectionMeaning
by_package negated = record {
  conditions = record { name = codes "Package"; test = IsPresent } ∷ [];
  negated = negated;
}

worked-selected : (fields_text (codes "Package" ∷ []) false (by_package false) means three
    ≡ codes "package:aa \n\nPACKAGE: bb\n")
    × (fields_text (codes "Size" ∷ []) true (by_package false) means three ≡ codes "\nSize: 1\n")
    × (fields_text (codes "X-Package" ∷ []) false (by_package true) means three
    ≡ codes "X-Package: cc\n tag: z\n")
    × (fields_text (codes "Package" ∷ []) true (by_package true) means three ≡ [])
unfolding paragraph_limit
worked-selected = (refl, refl, refl, refl)
