-- The values of a paragraph that passes.
use Rattle.deb_control.proofs.Common.{◌≡◌, ℕ, List, [], ◌∷◌, Option, None, Some, Ok, Err, IsTrue, is_some, Bool, true, false, cond, refl, sym, ap, ◌∙◌, subst, false≢true, bytes_eq-Decides, find, AllByRecursion, bytes_eq, canonical_name-from_folded, folded, canonical_name, Code, RefusedOrMemory, Fault, Refused, Memory, Read, Write, Refusal, body_at-entries_of, Seen, Field, are_fields, body_of, entries_of, byte_order, field_named, Doc, ValueMeaning, value_text, SpellsValue, value_refusal, value_law, is_judged, rules_of, AreValuesOf, HasValue, built, value_refusal_of, ValueEntries}
use Rattle.deb_control.proofs.Building.{built-canonical, built-passing, distinct-from}
use Rattle.deb_control.proofs.DocumentRules.{document_rules}
use Rattle.deb_control.proofs.FieldValues.{values-from_none, each-from_none, is_some-find}
use Rattle.deb_control.proofs.Passing.{built-parts}
use Rattle.deb_control.proofs.ValueBodies.{value_at}

pub built-unrefused : (doc : Doc) (seen : Seen) → IsTrue (is_judged doc seen) → (refusal : Refusal) → built (rules_of doc) seen ≡ Err refusal → ⊥
built-unrefused doc seen passes refusal is = let e = sym (built-canonical doc seen passes) ∙ is in cc

-- a fault that is no refusal is out of memory
pub only_memory : (fault : Fault) (P : Refusal → Type 0) → RefusedOrMemory fault P → ((refusal : Refusal) → P refusal → ⊥) → fault ≡ Memory
only_memory (Refused refusal) P is none = absurd (none refusal is)
only_memory Memory P is none = refl
only_memory Read P is none = absurd is
only_memory Write P is none = absurd is

-- its values
pub values-passing : (doc : Doc) (seen : Seen) → IsTrue (is_judged doc seen) → (values : ValueEntries ValueMeaning) × AreValuesOf doc seen values
values-passing doc seen passes =
    let found = built-passing doc seen passes in
    let parts = built-parts (rules_of doc) seen found.0 (value_refusal_of (rules_of doc) seen.fields) refl found.1 in
    let values = values-from_none ValueMeaning (SpellsValue doc) value_text (value_law doc) (rules_of doc) (document_rules doc) seen.fields parts.good in
    (values.0, record { spelled = values.1; passes = found.1 ∙ ap Ok (parts.is ∙ values.2) })

-- the field of a name, without case, has the body under its canonical spelling
pub field-body : (name : List ℕ) (fields : List Field) (field : Field) → field_named name fields ≡ Some field → (body_of name fields ≡ Some field.body) × (canonical_name field.name ≡ canonical_name name)
field-body name [] field is = absurd (cc)
field-body name (first ∷ fields) field is = go (bytes_eq (folded first.name) (folded name)) refl is (field-body name fields field)
  where
    same : Some first ≡ Some field → first ≡ field
    same e = cc

    go : (t : Bool) → bytes_eq (folded first.name) (folded name) ≡ t → cond t (Some first) (field_named name fields) ≡ Some field → (field_named name fields ≡ Some field → (body_of name fields ≡ Some field.body) × (canonical_name field.name ≡ canonical_name name)) → (cond t (Some first.body) (body_of name fields) ≡ Some field.body) × (canonical_name field.name ≡ canonical_name name)
    go true e f rest = (ap (λ x. Some x.body) (same f), ap (λ x. canonical_name x.name) (sym (same f)) ∙ canonical_name-from_folded first.name name ((bytes_eq-Decides (folded first.name) (folded name)).0 e))
    go false e f rest = rest f

no-body : (name : List ℕ) (fields : List Field) → field_named name fields ≡ None → body_of name fields ≡ None
no-body name [] none = refl
no-body name (first ∷ fields) none = go (bytes_eq (folded first.name) (folded name)) none (no-body name fields)
  where
    go : (t : Bool) → cond t (Some first) (field_named name fields) ≡ None → (field_named name fields ≡ None → body_of name fields ≡ None) → cond t (Some first.body) (body_of name fields) ≡ None
    go true e rest = absurd (cc)
    go false e rest = rest e

-- what was read under a name is the paragraph's value under it
module _ (doc : Doc) (seen : Seen) (passes : IsTrue (is_judged doc seen)) (are : are_fields seen.fields ≡ true) (name : List ℕ) where
  pub none-passing : field_named name seen.fields ≡ None → HasValue doc seen name None
  none-passing none =
      let values = values-passing doc seen passes in
      let no_entry : find byte_order (canonical_name name) (entries_of seen.fields) ≡ None = body_at-entries_of seen.fields (distinct-from seen.fields are) name ∙ no-body name seen.fields none in
      let no_value : is_some (find byte_order (canonical_name name) values.0) ≡ false = is_some-find (SpellsValue doc) (canonical_name name) (entries_of seen.fields) values.0 values.1.spelled ∙ ap is_some no_entry in
      record { values = values.0; are = values.1; found = sym (go (find byte_order (canonical_name name) values.0) no_value) }
    where
      go : (o : Option ValueMeaning) → is_some o ≡ false → o ≡ None
      go None e = refl
      go (Some v) e = absurd (false≢true (sym e))

  pub value-passing : (field : Field) (value : ValueMeaning) → field_named name seen.fields ≡ Some field → SpellsValue doc (canonical_name field.name) field.body value → HasValue doc seen name (Some value)
  value-passing field value is spells =
      let values = values-passing doc seen passes in
      let found = field-body name seen.fields field is in
      let entry : find byte_order (canonical_name name) (entries_of seen.fields) ≡ Some field.body = body_at-entries_of seen.fields (distinct-from seen.fields are) name ∙ found.0 in
      let at = value_at ValueMeaning (SpellsValue doc) value_text (value_law doc) (canonical_name name) field.body (entries_of seen.fields) values.0 values.1.spelled entry in
      let same : at.0 ≡ value = (value_law doc (canonical_name name)).one_meaning field.body at.0 value at.1 (subst (λ n. SpellsValue doc n field.body value) found.1 spells) in
      record { values = values.0; are = values.1; found = ap Some (sym same) ∙ sym at.2 }

  -- and it isn't refused
  pub unrefused-passing : (field : Field) (code : Code) → field_named name seen.fields ≡ Some field → value_refusal doc (canonical_name field.name) field.body ≡ Some code → ⊥
  unrefused-passing field code is refused =
      let found = built-passing doc seen passes in
      let parts = built-parts (rules_of doc) seen found.0 (value_refusal_of (rules_of doc) seen.fields) refl found.1 in
      go seen.fields is (each-from_none (rules_of doc) seen.fields parts.good)
    where
      go : (fields : List Field) → field_named name fields ≡ Some field → AllByRecursion (λ f. value_refusal doc (canonical_name f.name) f.body ≡ None) fields → ⊥
      go [] e all = cc
      go (first ∷ fields) e all = at (bytes_eq (folded first.name) (folded name)) e all (λ h. go fields h all.1)
        where
          at : (t : Bool) → cond t (Some first) (field_named name fields) ≡ Some field → AllByRecursion (λ f. value_refusal doc (canonical_name f.name) f.body ≡ None) (first ∷ fields) → (field_named name fields ≡ Some field → ⊥) → ⊥
          at true h each rest = let same : first ≡ field = cc in let none : value_refusal doc (canonical_name field.name) field.body ≡ None = ap (λ f. value_refusal doc (canonical_name f.name) f.body) (sym same) ∙ each.0 in cc
          at false h each rest = rest h
