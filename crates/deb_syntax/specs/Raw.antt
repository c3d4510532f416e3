-- What a view of a paragraph shows of it: its fields and the number of its first line. Debian
-- Policy 5.1.
use Rattle.std.specs.Prelude.{◌≡◌, ℕ, ◌==◌, Bool, true, false, List, [], ◌∷◌, Option, Some, None, find, codes, refl, drop}
use Rattle.std.specs.List.{list_any}
use Rattle.std.specs.Str.{bytes_eq, is_utf8, chars}
use lib.Utf8.{encode}
use denote.Ref.{Bor}
use Rattle.deb_base.specs.Bodies.{paragraph_limit}
use Rattle.deb_base.specs.Kinds.{known_row, row_count}
use Rattle.deb_base.specs.Names.{folded}
use Rattle.deb_base.specs.declared.known_fields.FieldId.{FieldId}
use Rattle.deb_syntax.specs.Fields.{Field}
use Rattle.deb_syntax.specs.FieldSpans.{fields_at}
use Rattle.deb_syntax.specs.declared.field_span.FieldSpan.{FieldSpan}
use Rattle.deb_syntax.specs.declared.raw.Fields.{Fields}
use Rattle.deb_syntax.specs.declared.raw.Raw.{Raw}
use Rattle.deb_syntax.specs.declared.raw.RawField.{RawField}

abbrev pub field_of : RawField → Field
field_of field = record { name = field.name.now; line = field.line; body = field.body.now }

-- the fields of a paragraph in the order of its lines
abbrev pub fields_of : Raw → List Field
fields_of raw = fields_at raw.text.now raw.spans.now

abbrev pub first_line_of : Raw → ℕ
first_line_of raw = raw.first_line

-- the fields that an iterator over them has left
abbrev pub fields_left : Fields → List Field
fields_left fields = fields_at fields.text.now fields.spans.now

-- the first field of the name, without ASCII case
abbrev pub field_named : List ℕ → List Field → Option Field
field_named name fields = find (λ field. bytes_eq (folded field.name) (folded name)) fields

-- whether there is a field whose name is in this row of the table
abbrev pub has_field_in : ℕ → List Field → Bool
has_field_in row fields = list_any (λ field. known_row field.name == row) fields

-- `Package` is in row 31
fields_in_rows : (has_field_in 31 (record { name = codes "Tag"; line = 1; body = [] }
    ∷ record { name = codes "pACKAGE"; line = 2; body = [] } ∷ []) ≡ true)
    × (has_field_in 31 (record { name = codes "Tag"; line = 1; body = [] } ∷ []) ≡ false)
    × (has_field_in 31 [] ≡ false)
unfolding known_row
fields_in_rows = (refl, refl, refl)

named_without_case : field_named (codes "vERSION")
    (record { name = codes "Package"; line = 1; body = codes "aa" }
    ∷ record { name = codes "Version"; line = 2; body = codes "1" } ∷ [])
    ≡ Some (record { name = codes "Version"; line = 2; body = codes "1" })
named_without_case = refl

named_otherwise : field_named (codes "Versio")
    (record { name = codes "Version"; line = 1; body = codes "1" } ∷ []) ≡ None
named_otherwise = refl

-- for the worked cases: a reference, and the spans of the fields of `A: 1`, ` 2` and `B:`
abbrev to : {T : Type 0} → T → Bor T
to value = record { ref_ptr = (0, 0); now = value }

abbrev other : FieldId
other = record { 0 = row_count }

abbrev two_spans : List FieldSpan
two_spans =
    record { line = 5; start = 0; colon = 1; end = 7; id = other }
    ∷ record { line = 7; start = 8; colon = 9; end = 10; id = other } ∷ []

abbrev a_field : RawField
unfolding known_row
a_field = record {
  name = to (codes "A");
  line = 3;
  body = to (codes "1");
  id = other;
  named = refl;
}

field_shown : field_of a_field ≡ record { name = codes "A"; line = 3; body = codes "1" }
unfolding a_field
field_shown = refl

unfoldable pub two_fields : Raw
unfolding paragraph_limit is_utf8 chars encode known_row
two_fields = record {
  text = to (codes "A: 1\n 2\nB:");
  spans = to two_spans;
  first_line = 4;
  within = refl;
  fields = refl;
  numbered = refl;
}

paragraph_shown : (fields_of two_fields
    ≡ record { name = codes "A"; line = 5; body = codes "1\n 2" }
    ∷ record { name = codes "B"; line = 7; body = [] } ∷ []) × (first_line_of two_fields ≡ 4)
unfolding two_fields
paragraph_shown = (refl, refl)

-- after the first one
abbrev one_left : Fields
unfolding paragraph_limit is_utf8 chars encode known_row
one_left = record {
  text = to (codes "A: 1\n 2\nB:");
  spans = to (drop 1 two_spans);
  within = refl;
  fields = refl;
}

left_fields_shown : fields_left one_left
    ≡ record { name = codes "B"; line = 7; body = [] } ∷ []
unfolding one_left
left_fields_shown = refl
