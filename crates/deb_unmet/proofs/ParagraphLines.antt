-- The lines of a paragraph by the texts that they have of it.
use Rattle.std.proofs.Common.{◌≡◌, ℕ, zero, suc, ◌+◌, ◌<◌, false, IsTrue, List, [], ◌∷◌, ◌++◌, length, drop, get_or, Option, Some, Bor, add-one, arith, codes, refl, sym, ap, ◌∙◌, subst, append_assoc}
use Rattle.std.proofs.lemmas.Bool.{false≢true}
use Rattle.std.proofs.Math.Seq.{drop-cons}
use Rattle.std.specs.Fmt.{decimal}
use Rattle.std.specs.List.{concat, flat_map}
use Rattle.deb_base.specs.Kinds.{known_row}
use Rattle.deb_base.specs.declared.doc.Doc.{Doc}
use Rattle.deb_relation.specs.Applying.{Environment}
use Rattle.deb_relation.specs.Views.{names_of}
use Rattle.deb_syntax.specs.Answers.{Seen}
use Rattle.deb_syntax.specs.Fields.{are_fields}
use Rattle.deb_field.specs.Values.{ValueMeaning}
use Rattle.deb_control.specs.CheckedStates.{passing_judged}
use Rattle.deb_control.specs.FieldTexts.{HasTexts, KeepsTexts, relation_at}
use Rattle.deb_control.specs.FieldWords.{groups_of, value_under, word_under}
use Rattle.deb_control.specs.Paragraphs.{AreValuesOf}
use Rattle.deb_control.specs.ValueFiles.{ValueEntries}
use Rattle.deb_control.specs.Visiting.{VisitsValues}
use Rattle.deb_control.specs.declared.checked_view.CheckedView.{CheckedView}
use Rattle.deb_control.specs.declared.field_texts.FieldTexts.{FieldTexts}
use Rattle.deb_control.proofs.KeptTexts.{has-texts}
use Rattle.deb_control.proofs.PassingParagraphs.{values-passing}
use Rattle.deb_unmet.specs.Asked.{doc_of, fields_asked, fields_with, name_field, rows_asked, rows_with}
use Rattle.deb_unmet.specs.Fields.{environment_for, field_lines, fields_lines, heading, paragraph_lines}
use Rattle.deb_unmet.specs.Paragraphs.{HasTextsOf, HaveRelations, IsRelationText, PassesWith, fields_in, heading_in}
use Rattle.deb_unmet.specs.Readings.{may}
use Rattle.deb_unmet.specs.Scopes.{Scope}
use Rattle.deb_unmet.specs.Spelled.{version_word}
use Rattle.deb_unmet.specs.Tried.{is_tried}
use Rattle.deb_unmet.specs.Troubles.{group_lines}
use Rattle.deb_unmet.specs.declared.applying.Applies.{Applies}
use Rattle.deb_unmet.specs.declared.applying.Applies.TheVariants.{Surely, Maybe, Never}
use Rattle.deb_unmet.specs.declared.asked.Asked.{Asked}
use Rattle.deb_unmet.specs.declared.asked.Asked.TheVariants.{Packages, Binary, Sources, Source}
use Rattle.deb_unmet.specs.declared.asked.Request.{Request}
use Rattle.deb_unmet.specs.declared.asked.Strength.{Strength}
use Rattle.deb_unmet.specs.declared.asked.Strength.TheVariants.{Depends, Recommends}
use Rattle.deb_unmet.specs.declared.line_texts.LineTexts.{LineTexts}
use Rattle.deb_unmet.specs.declared.paragraph.Paragraph.{Paragraph}

-- the lines of one more field
pub lines-next : (line : List ℕ → List ℕ) (fields : List (Bor (List ℕ))) (i : ℕ) (d : Bor (List ℕ)) (out now all : List ℕ) → i < length fields → now ≡ out ++ line (get_or fields i d).now → out ++ flat_map line (names_of (drop i fields)) ≡ all → now ++ flat_map line (names_of (drop (i + 1) fields)) ≡ all
lines-next line fields i d out now all within one before =
    ap (λ n. n ++ flat_map line (names_of (drop (i + 1) fields))) one
    ∙ append_assoc out (line (get_or fields i d).now) (flat_map line (names_of (drop (i + 1) fields)))
    ∙ ap (λ n. out ++ (line (get_or fields i d).now ++ flat_map line (names_of (drop n fields)))) (add-one i)
    ∙ ap (λ fs. out ++ flat_map line (names_of fs)) (sym (drop-cons fields i d within))
    ∙ before

-- the text of the relation in the field at an index
pub relation-at : (fields texts : List (List ℕ)) (values : ValueEntries ValueMeaning) (i : ℕ) → i < length fields → HaveRelations fields texts values → IsRelationText (get_or texts i []) (value_under (get_or fields i []) values)
relation-at [] texts values i within have = absurd (omega (arith, within))
relation-at (field ∷ fields) [] values i within have = absurd have
relation-at (field ∷ fields) (text ∷ texts) values zero within have = have.0
relation-at (field ∷ fields) (text ∷ texts) values (suc i) within have = relation-at fields texts values i (omega (arith, within)) have.1

-- the heading of the texts is that of the values
pub heading-of_texts : (p : Paragraph) (values : ValueEntries ValueMeaning) → HasTextsOf p.asked p.texts.now values → heading_in p ≡ heading p.asked p.number p.texts.now.version.now values
heading-of_texts p values has =
    let text : List ℕ → List ℕ → List ℕ = λ name architecture.
    concat (codes " " ∷ decimal p.number ∷ codes " " ∷ name ∷ codes " " ∷ p.texts.now.version.now ∷ codes " " ∷ architecture ∷ codes " " ∷ [])
    in
    ap (λ name. text name p.texts.now.architecture.now) has.name
    ∙ ap (text (word_under (name_field p.asked) values)) has.architecture

-- the lines of all fields, with the heading of the texts, are those of the values
pub lines-of_texts : (p : Paragraph) (values : ValueEntries ValueMeaning) (environment : Environment) (scope : Scope) (tried : Applies) → HasTextsOf p.asked p.texts.now values → tried ≡ is_tried p.asked environment scope.without values → fields_lines (environment_for p.asked environment values) scope tried (heading_in p) values (fields_asked p.asked) ≡ paragraph_lines p.asked environment scope p.number p.texts.now.version.now values
lines-of_texts p values environment scope tried has is =
    let lines : Applies → List ℕ → List ℕ = λ t head. fields_lines (environment_for p.asked environment values) scope t head values (fields_asked p.asked) in
    ap (λ t. lines t (heading_in p)) is
    ∙ ap (lines (is_tried p.asked environment scope.without values)) (heading-of_texts p values has)

-- a paragraph that isn't asked has none
pub not-may : (tried : Applies) → may tried ≡ false → tried ≡ Never
not-may Surely e = absurd (false≢true (sym e))
not-may Maybe e = absurd (false≢true (sym e))
not-may Never e = refl

none-each : {X : Type 0} (line : X → List ℕ) → ((x : X) → line x ≡ []) → (xs : List X) → flat_map line xs ≡ []
none-each line none [] = refl
none-each line none (x ∷ xs) = ap (λ l. l ++ flat_map line xs) (none x) ∙ none-each line none xs

pub never-lines : (environment : Environment) (scope : Scope) (heading : List ℕ) (values : ValueEntries ValueMeaning) (fields : List (List ℕ)) → fields_lines environment scope Never heading values fields ≡ []
never-lines environment scope heading values fields =
    none-each (λ field. field_lines environment scope Never heading field (value_under field values))
    (λ field. none-each (group_lines environment scope Never heading field) (λ group. refl) (groups_of (value_under field values))) fields

-- the texts of relations in the rows of the fields that are asked
module _ (texts : FieldTexts) (values : ValueEntries ValueMeaning) (has : HasTexts texts values) where
  text-has : (name : List ℕ) → IsRelationText (relation_at texts (known_row name)) (value_under name values)
  text-has name = record { is = has.relation name; regular = has.regular name }

  abbrev in_rows : List ℕ → List (List ℕ)
  in_rows rows = relation_at texts (get_or rows 0 0) ∷ relation_at texts (get_or rows 1 0) ∷ relation_at texts (get_or rows 2 0) ∷ []

  with-have : (strength : Strength) → HaveRelations (fields_with strength) (in_rows (rows_with strength)) values
  with-have Depends = (text-has (codes "Pre-Depends"), (text-has (codes "Depends"), tt))
  with-have Recommends = (text-has (codes "Pre-Depends"), (text-has (codes "Depends"), (text-has (codes "Recommends"), tt)))

  asked-have : (asked : Asked) → HaveRelations (fields_asked asked) (in_rows (rows_asked asked)) values
  asked-have (Packages strength) = with-have strength
  asked-have (Binary strength) = with-have strength
  asked-have (Sources which) = (text-has (codes "Build-Depends"), (text-has (codes "Build-Depends-Arch"), (text-has (codes "Build-Depends-Indep"), tt)))
  asked-have (Source which) = (text-has (codes "Build-Depends"), (text-has (codes "Build-Depends-Arch"), (text-has (codes "Build-Depends-Indep"), tt)))

  pub relations-have : (asked : Asked) (rows : List ℕ) (relations : List (List ℕ)) → rows ≡ rows_asked asked → relations ≡ in_rows rows → HaveRelations (fields_asked asked) relations values
  relations-have asked rows relations are is = rw (is, are) (asked-have asked)

-- what is known of the paragraph that was given last: its values, that the texts are theirs, and of which version
pub record GivenTexts (request : Request) (texts : LineTexts) (doc : Doc) (given : Seen) : Type 0 where
  pub values : ValueEntries ValueMeaning
  pub are : AreValuesOf doc given values
  pub has : HasTextsOf request.asked texts values
  pub version : texts.version.now ≡ version_word request.versions given.fields values

pub given_texts : (request : Request) (texts : LineTexts) (kept : FieldTexts) (given : Seen) (view : CheckedView) (current : Option Seen) → Some (passing_judged view).seen ≡ current → current ≡ Some given → ((values : ValueEntries ValueMeaning) → HasTexts kept values → PassesWith (doc_of request.asked) view values → HasTextsOf request.asked texts values) → ((values : ValueEntries ValueMeaning) → HasTexts kept values → texts.version.now ≡ version_word request.versions (fields_in view) values) → VisitsValues KeepsTexts kept (doc_of request.asked) given → GivenTexts request texts (doc_of request.asked) given
given_texts request texts kept given view current seen is of_values version visits =
    let doc = doc_of request.asked in
    let found = values-passing doc given visits.passes in
    let has = has-texts kept doc given visits found.0 found.1 in
    let some : Some (passing_judged view).seen ≡ Some given = seen ∙ is in
    let same : (passing_judged view).seen ≡ given = cc in
    let passes : PassesWith doc view found.0 = record {
      fields = subst (λ s. IsTrue (are_fields s.fields)) (sym same) visits.fields;
      are = subst (λ s. AreValuesOf doc s found.0) (sym same) found.1;
    } in
    record {
      values = found.0;
      are = found.1;
      has = of_values found.0 has passes;
      version = version found.0 has ∙ ap (λ s. version_word request.versions s.fields found.0) same;
    }
