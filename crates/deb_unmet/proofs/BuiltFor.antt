-- The text of Architecture of a source package, and the names that it means.
use Rattle.std.proofs.Common.{◌≡◌, ℕ, Bool, true, false, cond, codes, is_some, List, [], ◌∷◌, Option, None, Some, refl, sym, ap, ◌∙◌, subst}
use Rattle.std.proofs.lemmas.Bool.{false≢true}
use Rattle.std.specs.FinMap.{find}
use Rattle.std.specs.Prelude.{IsTrue}
use Rattle.std.specs.Str.{bytes_eq}
use Rattle.deb_base.specs.Kinds.{kind_at, kind_of, known_row}
use Rattle.deb_base.specs.Names.{folded}
use Rattle.deb_base.specs.declared.kind.Kind.TheVariants.{ArchitectureWords}
use Rattle.deb_syntax.specs.Fields.{Field, are_fields}
use Rattle.deb_syntax.specs.Laws.{body_of}
use Rattle.deb_syntax.specs.Meaning.{byte_order, entries_of}
use Rattle.deb_syntax.specs.Raw.{field_named}
use Rattle.deb_syntax.proofs.JudgingLawsMeaning.{body_at-entries_of}
use Rattle.deb_field.specs.CanonLaw.{Through}
use Rattle.deb_field.specs.ValueLaws.{value_law}
use Rattle.deb_field.specs.Values.{ArchitecturesMean, SpellsKind, SpellsValue, ValueMeaning, value_text}
use Rattle.deb_field.specs.Words.{SpellsArchitectures, words_of}
use Rattle.deb_control.specs.Pairs.{Pairwise}
use Rattle.deb_control.specs.ValueFiles.{SpellsEntry, ValueEntries}
use Rattle.deb_control.proofs.Building.{distinct-from}
use Rattle.deb_control.proofs.FieldValues.{is_some-find}
use Rattle.deb_control.proofs.ValueBodies.{value_at}
use Rattle.deb_unmet.specs.Asked.{by_target, doc_of}
use Rattle.deb_unmet.specs.Tried.{names_in, names_under}
use Rattle.deb_unmet.specs.declared.asked.Asked.{Asked}
use Rattle.deb_unmet.specs.declared.asked.Asked.TheVariants.{Packages, Binary, Sources, Source}

words_kind : (asked : Asked) → by_target asked ≡ true → kind_of (doc_of asked) (codes "Architecture") ≡ ArchitectureWords
unfolding kind_of kind_at known_row
words_kind (Packages strength) asks = absurd (false≢true asks)
words_kind (Binary strength) asks = absurd (false≢true asks)
words_kind (Sources which) asks = refl
words_kind (Source which) asks = refl

body-some : (name : List ℕ) (fields : List Field) (field : Field) → field_named name fields ≡ Some field → body_of name fields ≡ Some field.body
body-some name [] field is = absurd (cc)
body-some name (first ∷ fields) field is = go (bytes_eq (folded first.name) (folded name)) is (body-some name fields field)
  where
    go : (t : Bool) → cond t (Some first) (field_named name fields) ≡ Some field → (field_named name fields ≡ Some field → body_of name fields ≡ Some field.body) → cond t (Some first.body) (body_of name fields) ≡ Some field.body
    go true e rest = let same : first ≡ field = cc in ap (λ f. Some f.body) same
    go false e rest = rest e

body-none : (name : List ℕ) (fields : List Field) → field_named name fields ≡ None → body_of name fields ≡ None
body-none name [] is = refl
body-none name (first ∷ fields) is = go (bytes_eq (folded first.name) (folded name)) is (body-none name fields)
  where
    go : (t : Bool) → cond t (Some first) (field_named name fields) ≡ None → (field_named name fields ≡ None → body_of name fields ≡ None) → cond t (Some first.body) (body_of name fields) ≡ None
    go true e rest = absurd (cc)
    go false e rest = rest e

module _ (asked : Asked) (fields : List Field) (values : ValueEntries ValueMeaning) (asks : by_target asked ≡ true) (are : IsTrue (are_fields fields)) (spelled : Pairwise (SpellsEntry (SpellsValue (doc_of asked))) (entries_of fields) values) where
  abbrev name : List ℕ
  name = codes "Architecture"

  entry : (o : Option (List ℕ)) → body_of name fields ≡ o → find byte_order name (entries_of fields) ≡ o
  entry o is = body_at-entries_of fields (distinct-from fields are) name ∙ is

  pub built-some : (field : Field) → field_named name fields ≡ Some field → Some (words_of field.body) ≡ names_under (find byte_order name values)
  built-some field is =
      let at = value_at ValueMeaning (SpellsValue (doc_of asked)) value_text (value_law (doc_of asked)) name field.body (entries_of fields) values spelled (entry (Some field.body) (body-some name fields field is)) in
      let through : Through ArchitecturesMean SpellsArchitectures field.body at.0 = subst (λ k. SpellsKind k field.body at.0) (words_kind asked asks) at.1 in
      ap Some through.2.0 ∙ sym (ap names_in through.1) ∙ sym (ap names_under at.2)

  pub built-none : field_named name fields ≡ None → None ≡ names_under (find byte_order name values)
  built-none is = go (find byte_order name values) (is_some-find (SpellsValue (doc_of asked)) name (entries_of fields) values spelled ∙ ap is_some (entry None (body-none name fields is)))
    where
      go : (o : Option ValueMeaning) → is_some o ≡ false → None ≡ names_under o
      go None e = refl
      go (Some v) e = absurd (false≢true (sym e))
