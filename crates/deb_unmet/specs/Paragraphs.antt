-- A paragraph that passes: its fields as they are in the file, the texts that its lines have of it,
-- and what they begin with. Debian Policy 5.1; the form of the lines is this project's own.
use Rattle.std.specs.Prelude.{◌≡◌, List, [], ◌∷◌, ℕ, Option, Some, IsTrue, true, codes, refl}
use Rattle.std.specs.Borrow.{Bor}
use Rattle.std.specs.Fmt.{decimal, digits}
use Rattle.std.specs.List.{concat}
use Rattle.std.specs.Option.{option_map}
use Rattle.deb_relation.specs.Regular.{IsRegularRelation}
use Rattle.deb_relation.specs.Texts.{group_text, relation_text}
use Rattle.deb_relation.specs.Views.{names_of}
use Rattle.deb_base.specs.declared.doc.Doc.{Doc}
use Rattle.deb_syntax.specs.Fields.{Field, are_fields}
use Rattle.deb_field.specs.Values.{ValueMeaning, RelationMeans}
use Rattle.deb_field.specs.Words.{words_of}
use Rattle.deb_control.specs.CheckedStates.{passing_judged}
use Rattle.deb_control.specs.FieldWords.{groups_of, value_under, word_under}
use Rattle.deb_control.specs.Paragraphs.{AreValuesOf}
use Rattle.deb_control.specs.ValueFiles.{ValueEntries}
use Rattle.deb_control.specs.declared.checked_view.CheckedView.{CheckedView}
use Rattle.deb_index.specs.Alternatives.{alone}
use Rattle.deb_unmet.specs.Asked.{by_target, fields_asked, name_field}
use Rattle.deb_unmet.specs.Fields.{architecture_of}
use Rattle.deb_unmet.specs.Tried.{names_under}
use Rattle.deb_unmet.specs.declared.asked.Asked.{Asked}
use Rattle.deb_unmet.specs.declared.asked.Asked.TheVariants.{Source}
use Rattle.deb_unmet.specs.declared.asked.SourcesAsked.TheVariants.{OfTarget}
use Rattle.deb_unmet.specs.declared.line_texts.LineTexts.{LineTexts}
use Rattle.deb_unmet.specs.declared.paragraph.Paragraph.{Paragraph}
use Rattle.deb_syntax.specs.Paragraphs.{seen_of}
use Rattle.std.proofs.Common.{ap}
use Rattle.deb_syntax.specs.Answers.{Seen}

-- its fields as they are in the file
abbrev pub fields_in : CheckedView → List Field
fields_in paragraph = (passing_judged paragraph).seen.fields

-- The text is the canonical one of the relation, or empty if there is none.
pub record IsRelationText (text : List ℕ) (value : Option ValueMeaning) : Type 0 where
  pub is : text ≡ relation_text (groups_of value)
  pub regular : IsRegularRelation (groups_of value)

-- The first of these texts are those of the relations in fields.
abbrev pub HaveRelations : List (List ℕ) → List (List ℕ) → ValueEntries ValueMeaning → Type 0
HaveRelations [] texts values = Unit {0}
HaveRelations (field ∷ fields) [] values = ⊥
HaveRelations (field ∷ fields) (text ∷ texts) values =
    IsRelationText text (value_under field values) × HaveRelations fields texts values

-- The paragraph passes as one of such a file, with these values.
pub record PassesWith (doc : Doc) (paragraph : CheckedView) (values : ValueEntries ValueMeaning) :
    Type 0 where
  pub fields : IsTrue (are_fields (fields_in paragraph))
  pub are : AreValuesOf doc (passing_judged paragraph).seen values

-- the names in the text of Architecture of a source package; none if there is no such field
abbrev pub names_built_for : LineTexts → Option (List (List ℕ))
names_built_for texts = option_map (λ text. words_of text.now) texts.built_for

-- These are texts of a paragraph with these values; the version may be spelled in any way.
-- If only source packages for the target are asked, the names in Architecture are there too.
pub record HasTextsOf (asked : Asked) (texts : LineTexts) (values : ValueEntries ValueMeaning) :
    Type 0 where
  pub name : texts.name.now ≡ word_under (name_field asked) values
  pub built_for : by_target asked ≡ true
      → names_built_for texts ≡ names_under (value_under (codes "Architecture") values)
  pub architecture : texts.architecture.now ≡ architecture_of asked values
  pub relations : HaveRelations (fields_asked asked) (names_of texts.relations) values

-- ` NUMBER PACKAGE VERSION ARCHITECTURE `
abbrev pub heading_in : Paragraph → List ℕ
heading_in p =
    concat (codes " " ∷ decimal p.number ∷ codes " " ∷ p.texts.now.name.now ∷ codes " "
    ∷ p.texts.now.version.now ∷ codes " " ∷ p.texts.now.architecture.now ∷ codes " " ∷ [])

-- those of the paragraph that passes
worked-fields : (paragraph : CheckedView) → seen_of paragraph.raw
    ≡ record { first = 5; fields = record { name = codes "A"; line = 5; body = codes "1" } ∷ [] }
    → fields_in paragraph ≡ record { name = codes "A"; line = 5; body = codes "1" } ∷ []
worked-fields paragraph = ap (λ (seen : Seen). seen.fields)

abbrev two : ValueEntries ValueMeaning
two =
    (codes "Depends", RelationMeans ((alone (codes "aa") ∷ []) ∷ (alone (codes "bb") ∷ []) ∷ []))
    ∷ []

worked-text : relation_text (groups_of (value_under (codes "Depends") two)) ≡ codes "aa, bb"
unfolding group_text
worked-text = refl

-- there is no Pre-Depends, and of the last text nothing is said
worked-relations : IsRegularRelation (groups_of (value_under (codes "depends") two))
    → HaveRelations (codes "Pre-Depends" ∷ codes "Depends" ∷ [])
    ([] ∷ codes "aa, bb" ∷ codes "cc" ∷ []) two
unfolding group_text
worked-relations regular = (
  record { is = refl; regular = record { groups = tt; ascend = tt } },
  (record { is = refl; regular = regular }, tt),
)

abbrev to : {T : Type 0} → T → Bor T
to value = record { ref_ptr = (0, 0); now = value }

abbrev paragraph : Paragraph
paragraph = record {
  asked = Source OfTarget;
  number = 7;
  texts =
      to
      (record {
        name = to (codes "xx");
        version = to (codes "1.0-0");
        architecture = to (codes "source");
        built_for = Some (to (codes "i386\n  all"));
        relations = to [] ∷ to [] ∷ to [] ∷ [];
      });
}

worked-built_for : names_built_for paragraph.texts.now ≡ Some (codes "i386" ∷ codes "all" ∷ [])
worked-built_for = refl

worked-heading : heading_in paragraph ≡ codes " 7 xx 1.0-0 source "
unfolding digits
worked-heading = refl
