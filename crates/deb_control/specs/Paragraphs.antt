-- What a paragraph whose values have been read shows of it. Debian Policy 5.1.
use Rattle.std.specs.Prelude.{◌≡◌, ℕ, List, [], ◌∷◌, map, Ok, codes, refl}
use denote.Ref.{Bor}
use Rattle.deb_base.specs.Kinds.{known_row, row_count}
use Rattle.deb_base.specs.Names.{canonical_name}
use Rattle.deb_syntax.specs.Fields.{Field}
use Rattle.deb_syntax.specs.Meaning.{entries_of}
use Rattle.deb_syntax.specs.Answers.{Seen}
use Rattle.deb_syntax.specs.Raw.{field_of}
use Rattle.deb_base.specs.declared.doc.Doc.{Doc}
use Rattle.deb_field.specs.Values.{ValueMeaning, FlagMeans, TextMeans, value_text, SpellsValue}
use Rattle.deb_field.specs.ValueMeanings.{value_meaning}
use Rattle.deb_field.specs.declared.flag.Flag.TheVariants.{Yes}
use Rattle.deb_field.specs.declared.value.Value.TheVariants.{Flag, Text}
use Rattle.deb_control.specs.Canonical.{paragraph_text}
use Rattle.deb_control.specs.Documents.{rules_of}
use Rattle.deb_control.specs.Pairs.{Pairwise}
use Rattle.deb_control.specs.Refusals.{built}
use Rattle.deb_control.specs.ValueFiles.{ValueEntries, SpellsEntry, body_under}
use Rattle.deb_control.specs.declared.typed_field.TypedField.{TypedField}

-- the field as it is in the file
abbrev pub field_in : TypedField → Field
field_in field = field_of field.raw

-- the value under the canonical spelling of the field's name
abbrev pub value_in : TypedField → List ℕ × ValueMeaning
value_in field = (canonical_name field.raw.name.now, value_meaning field.value)

abbrev pub values_in : List TypedField → ValueEntries ValueMeaning
values_in fields = map value_in fields

-- the canonical text of a paragraph with these values
abbrev pub text_of_values : ValueEntries ValueMeaning → List ℕ
text_of_values values = paragraph_text (map (body_under value_text) values)

-- The body of the field spells its value.
abbrev pub IsTypedField : Doc → TypedField → Type 0
IsTypedField doc field =
    SpellsValue doc (canonical_name field.raw.name.now) field.raw.body.now
    (value_meaning field.value)

-- These are the values of a paragraph that passes by itself: its bodies spell them, and their texts
-- are its canonical bodies.
pub record AreValuesOf (doc : Doc) (seen : Seen) (values : ValueEntries ValueMeaning) : Type 0 where
  pub spelled : Pairwise (SpellsEntry (SpellsValue doc)) (entries_of seen.fields) values
  pub passes : built (rules_of doc) seen ≡ Ok (map (body_under value_text) values)

-- for the worked cases: a reference, and two fields with their values
abbrev to : {T : Type 0} → T → Bor T
to value = record { ref_ptr = (0, 0); now = value }

unfoldable pub flag_field : TypedField
unfolding known_row
flag_field = record {
  raw =
      record {
        name = to (codes "eSSENTIAL");
        line = 3;
        body = to (codes "yes");
        id = record { 0 = known_row (codes "Essential") };
        named = refl;
      };
  value = Flag Yes;
}

unfoldable pub text_field : TypedField
unfolding known_row
text_field = record {
  raw =
      record {
        name = to (codes "x-a");
        line = 2;
        body = to (codes "1");
        id = record { 0 = row_count };
        named = refl;
      };
  value = Text (record { bytes = to (codes "1") });
}

fields_in_file : (field_in flag_field
    ≡ record { name = codes "eSSENTIAL"; line = 3; body = codes "yes" })
    × (value_in flag_field ≡ (codes "Essential", FlagMeans Yes))
    × (values_in (flag_field ∷ text_field ∷ [])
    ≡ (codes "Essential", FlagMeans Yes) ∷ (codes "X-A", TextMeans (codes "1")) ∷ [])
unfolding flag_field text_field
fields_in_file = (refl, refl, refl)

text_of_two : (text_of_values
    ((codes "Essential", FlagMeans Yes) ∷ (codes "X-A", TextMeans (codes "1")) ∷ [])
    ≡ codes "Essential: yes\nX-A: 1\n") × (text_of_values [] ≡ [])
text_of_two = (refl, refl)
