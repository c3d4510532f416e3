-- What the tables of fields promise: the parts of the tables that spans name are the fields. Debian
-- Policy 5.1; the form of the tables is this project's own.
use Rattle.std.specs.Prelude.{◌≡◌, ℕ, List, [], take, drop, map, codes, refl}
use Rattle.debctl_ffi.specs.Fields.{Numbered, names_text, spans_from, values_text}
use Rattle.debctl_ffi.specs.declared.field.FieldSpan.{FieldSpan}

-- the field that a span names in a table of names and one of values
abbrev pub field_shown : List ℕ → List ℕ → FieldSpan → Numbered
field_shown names values span = (
  span.paragraph,
  record {
    name = take span.name_length (drop span.name names);
    line = span.line;
    body = take span.value_length (drop span.value values);
  },
)

-- The spans name exactly the fields, in their order.
abbrev pub SpansShowFields : Type 0
SpansShowFields =
    (shown : List Numbered)
    → map (field_shown (names_text shown) (values_text shown)) (spans_from 0 0 shown) ≡ shown

worked-field : field_shown (codes "A\0Bb\0") (codes "xy\0\0")
    (record { paragraph = 2; line = 3; name = 2; name_length = 2; value = 3; value_length = 0 })
    ≡ (2, record { name = codes "Bb"; line = 3; body = [] })
worked-field = refl
