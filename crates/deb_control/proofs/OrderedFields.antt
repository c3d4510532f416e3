-- The values of a paragraph whose fields were read in the order of their canonical names.
use Rattle.deb_control.proofs.Common.{◌≡◌, ℕ, ◌+◌, ◌<◌, List, [], ◌∷◌, ◌++◌, map, drop, get_or, length, slice_get, option_map, Option, Some, None, IsSome, Result, Ok, Err, IfOk, is_some, true, IsTrue, Less, refl, sym, ap, ◌∙◌, subst, false≢true, slice_get_within, get_or_from_slice_get, map-append, append_assoc, All-from_recursion, AllByRecursion, Code, Refusal, Field, are_fields, field_of, RawField, canonical_name, entries_of, entries_of-permutation, Seen, Doc, ValueMeaning, value_text, SpellsValue, value_law, value_refusal, value_refusal_of, is_judged, rules_of, byte_order, Pairwise, SpellsEntry, field_in, values_in, IsTypedField, AreValuesOf, TypedField, IsGood, IsOrderOf, NamesAscend, no_field, picked}
use Rattle.deb_control.proofs.AppendedFields.{picked-next}
use Rattle.deb_control.proofs.Building.{built-canonical, built-passing, distinct-from, each_spelled}
use Rattle.deb_control.proofs.DocumentRules.{document_rules}
use Rattle.deb_control.proofs.Entries.{IsAscending}
use Rattle.deb_control.proofs.FieldValues.{canonical-from_values, each-from_none}
use Rattle.deb_control.proofs.Passing.{built-parts}
use Rattle.deb_control.proofs.SortedFields.{entries_of-ascending, entry_of}

-- fields whose names ascend have ascending entries
below-entries : (name : List ℕ) (fields : List Field) → AllByRecursion (λ other. byte_order name (canonical_name other.name) ≡ Less) fields → AllByRecursion (λ entry. byte_order name entry.0 ≡ Less) (map entry_of fields)
below-entries name [] below = tt
below-entries name (field ∷ fields) below = (below.0, below-entries name fields below.1)

ascending-entries : (fields : List Field) → NamesAscend fields → IsAscending (map entry_of fields)
ascending-entries [] ascend = tt
ascending-entries (field ∷ fields) ascend = (below-entries (canonical_name field.name) fields ascend.0, ascending-entries fields ascend.1)

-- where the paragraph passes, the values that were read of its fields in their order are its values
pub AreValuesOf-ordered : (doc : Doc) (seen : Seen) (order : List ℕ) (items : List TypedField) → are_fields seen.fields ≡ true → IsTrue (is_judged doc seen) → IsOrderOf seen.fields order → map field_in items ≡ picked seen.fields order → AllByRecursion (IsTypedField doc) items → AreValuesOf doc seen (values_in items)
AreValuesOf-ordered doc seen order items are passes is read good =
    let distinct = distinct-from seen.fields are in
    let chosen = picked seen.fields order in
    let same : entries_of seen.fields ≡ map entry_of (map field_in items) =
    entries_of-permutation seen.fields chosen is.all distinct
    ∙ entries_of-ascending chosen (ascending-entries chosen is.ascend)
    ∙ ap (map entry_of) (sym read) in
    let spelled = subst (λ e. Pairwise (SpellsEntry (SpellsValue doc)) e (values_in items)) (sym same) (each_spelled doc items good) in
    let texts = canonical-from_values ValueMeaning (SpellsValue doc) value_text (value_law doc) (rules_of doc) (document_rules doc) seen.fields (values_in items) distinct spelled in
    record { spelled = spelled; passes = built-canonical doc seen passes ∙ ap Ok texts }

-- no value of a paragraph that passes is refused
pub none_refused : (doc : Doc) (seen : Seen) → IsTrue (is_judged doc seen) → IsSome (value_refusal_of (rules_of doc) seen.fields) → ⊥
none_refused doc seen passes refused =
    let found = built-passing doc seen passes in
    let parts = built-parts (rules_of doc) seen found.0 (value_refusal_of (rules_of doc) seen.fields) refl found.1 in
    false≢true (sym (ap is_some parts.good) ∙ refused)

-- a value that is refused
pub refused-at : (doc : Doc) (fields : List Field) (i : ℕ) (raw : RawField) (code : Code) → option_map field_of (Some raw) ≡ slice_get fields i → value_refusal doc (canonical_name raw.name.now) raw.body.now ≡ Some code → IsSome (value_refusal_of (rules_of doc) fields)
refused-at doc fields i raw code is refused = go (value_refusal_of (rules_of doc) fields) refl
  where
    go : (o : Option Refusal) → value_refusal_of (rules_of doc) fields ≡ o → IsSome o
    go (Some refusal) e = refl
    go None e =
        let at : slice_get fields i ≡ Some (field_of raw) = sym is in
        let P : Field → Type 0 = IsGood (rules_of doc) in
        let good : P (get_or fields i no_field) = All-from_recursion P fields (each-from_none (rules_of doc) fields e) i no_field (slice_get_within fields i (field_of raw) at) in
        let here : P (field_of raw) = subst P (get_or_from_slice_get fields i (field_of raw) no_field at) good in
        let none : value_refusal doc (canonical_name raw.name.now) raw.body.now ≡ None = here in
        cc

-- those that were read so far, and those that are left
pub read-next : (doc : Doc) (fields : List Field) (order : List ℕ) (i : ℕ) (within : i < length order) (raw : RawField) → option_map field_of (Some raw) ≡ slice_get fields (get_or order i 0) → (items new : List TypedField) (field : TypedField) → field_in field ≡ field_of raw → new ≡ items ++ field ∷ [] → map field_in items ++ picked fields (drop i order) ≡ picked fields order → map field_in new ++ picked fields (drop (i + 1) order) ≡ picked fields order
read-next doc fields order i within raw at items new field same pushed so_far =
    let others = picked fields (drop (i + 1) order) in
    ap (λ m. map field_in m ++ others) pushed
    ∙ ap (λ m. m ++ others) (map-append field_in items (field ∷ []))
    ∙ append_assoc (map field_in items) (field_in field ∷ []) others
    ∙ ap (λ f. map field_in items ++ f ∷ others) same
    ∙ ap (λ m. map field_in items ++ m) (sym (picked-next doc fields order i within raw at))
    ∙ so_far

-- two facts of the value give a third
pub if_both : {T E : Type 0} (P Q R : T → Type 0) → ((x : T) → P x → Q x → R x) → (r : Result T E) → IfOk r P → IfOk r Q → IfOk r R
if_both P Q R f (Ok x) p q = f x p q
if_both P Q R f (Err e) p q = tt
