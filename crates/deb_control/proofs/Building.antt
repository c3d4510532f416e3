-- What is built of a paragraph whose fields were read.
use Rattle.deb_control.proofs.Common.{◌≡◌, ◌&&◌, not, true, IsTrue, List, [], ◌∷◌, map, Result, Ok, Err, is_ok, refl, ap, ◌∙◌, and_parts, not-true, AllByRecursion, Refusal, Field, has_name, AreDistinct, is_field, are_fields, Entries, Seen, Doc, SpellsValue, is_judged, rules_of, Pairwise, field_in, values_in, IsTypedField, value_refusal_of, canonical_entries, built, SpellsEntry, TypedField}
use Rattle.deb_control.proofs.Passing.{built-parts}
use Rattle.deb_control.proofs.SortedFields.{entry_of}

pub distinct-from : (fields : List Field) → are_fields fields ≡ true → AreDistinct fields
distinct-from [] h = tt
distinct-from (field ∷ fields) h =
    let outer = and_parts (is_field field && not (has_name field.name fields)) (are_fields fields) h in
    let inner = and_parts (is_field field) (not (has_name field.name fields)) outer.0 in
    (not-true (has_name field.name fields) inner.1, distinct-from fields outer.1)

pub each_spelled : (doc : Doc) (items : List TypedField) → AllByRecursion (IsTypedField doc) items → Pairwise (SpellsEntry (SpellsValue doc)) (map entry_of (map field_in items)) (values_in items)
each_spelled doc [] h = tt
each_spelled doc (field ∷ items) h = ((refl, h.0), each_spelled doc items h.1)

-- what is built of a paragraph that passes
pub built-passing : (doc : Doc) (seen : Seen) → IsTrue (is_judged doc seen) → (entries : Entries) × (built (rules_of doc) seen ≡ Ok entries)
built-passing doc seen passes = go (built (rules_of doc) seen) refl passes
  where
    go : (r : Result Entries Refusal) → built (rules_of doc) seen ≡ r → IsTrue (is_ok r) → (entries : Entries) × (built (rules_of doc) seen ≡ Ok entries)
    go (Ok entries) e is = (entries, e)
    go (Err refusal) e is = absurd (cc)

pub built-canonical : (doc : Doc) (seen : Seen) → IsTrue (is_judged doc seen) → built (rules_of doc) seen ≡ Ok (canonical_entries (rules_of doc) seen.fields)
built-canonical doc seen passes =
    let found = built-passing doc seen passes in
    found.1 ∙ ap Ok (built-parts (rules_of doc) seen found.0 (value_refusal_of (rules_of doc) seen.fields) refl found.1).is
