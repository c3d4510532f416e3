-- The values of the fields of a paragraph, one by one.
use Rattle.std.proofs.Common.{◌≡◌, ℕ, ◌||◌, true, false, cond, is_some, List, [], ◌∷◌, ◌++◌, Option, None, Some, refl, sym, ap, ◌∙◌, subst}
use Rattle.std.proofs.lemmas.Bool.{false≢true, or_parts}
use Rattle.std.proofs.lemmas.Slice.Eq.{bytes_eq-Decides}
use Rattle.std.specs.FinMap.{find}
use Rattle.std.specs.Str.{bytes_eq}
use Rattle.deb_base.specs.Names.{canonical_name, folded}
use Rattle.deb_base.specs.declared.doc.Doc.{Doc}
use Rattle.deb_syntax.specs.Answers.{Seen}
use Rattle.deb_syntax.specs.Fields.{AreDistinct, Field, are_fields, has_name}
use Rattle.deb_syntax.specs.Meaning.{byte_order, entries_of}
use Rattle.deb_syntax.specs.Laws.{body_of}
use Rattle.deb_syntax.specs.Raw.{field_named}
use Rattle.deb_syntax.proofs.JudgingLawsMeaning.{body_at-entries_of}
use Rattle.deb_field.specs.ValueLaws.{value_law}
use Rattle.deb_field.specs.Values.{SpellsValue, ValueMeaning, value_text}
use Rattle.deb_control.specs.FieldWords.{value_under}
use Rattle.deb_control.specs.Paragraphs.{AreValuesOf}
use Rattle.deb_control.specs.ValueFiles.{ValueEntries}
use Rattle.deb_control.proofs.Building.{distinct-from}
use Rattle.deb_control.proofs.FieldValues.{is_some-find}
use Rattle.deb_control.proofs.PassingParagraphs.{field-body}
use Rattle.deb_control.proofs.ValueBodies.{value_at}
use Rattle.deb_select.proofs.TestMaps.{same_bytes}

-- a field among others, of which none before it has its name
pub apart-before : (done rest : List Field) (field : Field) → AreDistinct (done ++ field ∷ rest) → has_name field.name done ≡ false
apart-before [] rest field distinct = refl
apart-before (first ∷ done) rest field distinct =
    ap (λ t. t || has_name field.name done) (same_bytes (folded first.name) (folded field.name) ∙ apart done distinct.0) ∙ apart-before done rest field distinct.1
  where
    apart : (others : List Field) → has_name first.name (others ++ field ∷ rest) ≡ false → bytes_eq (folded field.name) (folded first.name) ≡ false
    apart [] none = (or_parts (bytes_eq (folded field.name) (folded first.name)) (has_name first.name rest) none).0
    apart (other ∷ others) none = apart others (or_parts (bytes_eq (folded other.name) (folded first.name)) (has_name first.name (others ++ field ∷ rest)) none).1

named-at : (done rest : List Field) (field : Field) → has_name field.name done ≡ false → field_named field.name (done ++ field ∷ rest) ≡ Some field
named-at [] rest field none = ap (λ t. cond t (Some field) (field_named field.name rest)) ((bytes_eq-Decides (folded field.name) (folded field.name)).1 refl)
named-at (first ∷ done) rest field none =
    let p = or_parts (bytes_eq (folded first.name) (folded field.name)) (has_name field.name done) none in
    ap (λ t. cond t (Some first) (field_named field.name (done ++ field ∷ rest))) p.0 ∙ named-at done rest field p.1

none-named : (name : List ℕ) (fields : List Field) → has_name name fields ≡ false → field_named name fields ≡ None
none-named name [] none = refl
none-named name (first ∷ fields) none =
    let p = or_parts (bytes_eq (folded first.name) (folded name)) (has_name name fields) none in
    ap (λ t. cond t (Some first) (field_named name fields)) p.0 ∙ none-named name fields p.1

no-body : (name : List ℕ) (fields : List Field) → has_name name fields ≡ false → body_of name fields ≡ None
no-body name [] none = refl
no-body name (first ∷ fields) none =
    let p = or_parts (bytes_eq (folded first.name) (folded name)) (has_name name fields) none in
    ap (λ t. cond t (Some first.body) (body_of name fields)) p.0 ∙ no-body name fields p.1

not-some : {X : Type 0} (o : Option X) → is_some o ≡ false → o ≡ None
not-some None none = refl
not-some (Some x) none = absurd (false≢true (sym none))

-- the value of a field of the paragraph
pub record HasFieldValue (doc : Doc) (field : Field) (values : ValueEntries ValueMeaning) : Type 0 where
  pub value : ValueMeaning
  pub spells : SpellsValue doc (canonical_name field.name) field.body value
  pub found : value_under field.name values ≡ Some value

module _ (doc : Doc) (seen : Seen) (fields : are_fields seen.fields ≡ true) (values : ValueEntries ValueMeaning) (are : AreValuesOf doc seen values) where
  pub field-value : (done rest : List Field) (field : Field) → done ++ field ∷ rest ≡ seen.fields → HasFieldValue doc field values
  field-value done rest field whole =
      let distinct = distinct-from seen.fields fields in
      let none = apart-before done rest field (subst AreDistinct (sym whole) distinct) in
      let named : field_named field.name seen.fields ≡ Some field = ap (field_named field.name) (sym whole) ∙ named-at done rest field none in
      let entry : find byte_order (canonical_name field.name) (entries_of seen.fields) ≡ Some field.body = body_at-entries_of seen.fields distinct field.name ∙ (field-body field.name seen.fields field named).0 in
      let at = value_at ValueMeaning (SpellsValue doc) value_text (value_law doc) (canonical_name field.name) field.body (entries_of seen.fields) values are.spelled entry in
      record { value = at.0; spells = at.1; found = at.2 }

  -- and of none where there is no field of a name
  pub no-value : (name : List ℕ) → has_name name seen.fields ≡ false → value_under name values ≡ None
  no-value name none =
      not-some (value_under name values)
      (is_some-find (SpellsValue doc) (canonical_name name) (entries_of seen.fields) values are.spelled
      ∙ ap is_some (body_at-entries_of seen.fields (distinct-from seen.fields fields) name ∙ no-body name seen.fields none))
