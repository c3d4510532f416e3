-- What a paragraph whose values have been read means.
use Rattle.std.specs.Prelude.{◌≡◌, List, map, refl, [], ◌∷◌, codes}
use Rattle.deb_syntax.specs.Fields.{Field}
use Rattle.deb_field.specs.Values.{ValueMeaning, FlagMeans, TextMeans}
use Rattle.deb_control.specs.Paragraphs.{field_in, values_in, flag_field, text_field}
use Rattle.deb_control.specs.ValueFiles.{ValueEntries}
use Rattle.deb_control.specs.declared.paragraph.Paragraph.{Paragraph}
use Rattle.deb_base.specs.Literals.{vector}
use Rattle.deb_field.specs.declared.flag.Flag.TheVariants.{Yes}

-- its values, under the canonical spellings of their fields' names in ascending order
abbrev pub values_of : Paragraph → ValueEntries ValueMeaning
values_of paragraph = values_in paragraph.fields.items

-- and its fields as they are in the file, in the same order
abbrev pub fields_shown : Paragraph → List Field
fields_shown paragraph = map field_in paragraph.fields.items

abbrev two_fields : Paragraph
unfolding flag_field text_field
two_fields = record {
  fields = vector (flag_field ∷ text_field ∷ []) refl;
  text = vector (codes "Essential: yes\nX-A: 1\n") refl;
  written = refl;
}

paragraph_shown : (values_of two_fields
    ≡ (codes "Essential", FlagMeans Yes) ∷ (codes "X-A", TextMeans (codes "1")) ∷ [])
    × (fields_shown two_fields
    ≡ record { name = codes "eSSENTIAL"; line = 3; body = codes "yes" }
    ∷ record { name = codes "x-a"; line = 2; body = codes "1" } ∷ [])
unfolding two_fields flag_field text_field
paragraph_shown = (refl, refl)
