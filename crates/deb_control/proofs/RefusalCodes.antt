-- The codes with which a paragraph that was read is refused.
use Rattle.deb_control.proofs.Common.{◌≡◌, ◌≤◌, Bool, true, false, cond, not, nat_le, List, [], ◌∷◌, length, Option, None, Some, Result, Ok, Err, IfSome, refl, subst, arith, and_parts, leb-true, list_all, number_of, IsReadersFault, canonical_name, paragraph_limit, Code, MissingField, ParagraphTooLong, Fault, Refused, Memory, Read, Write, Refusal, Seen, Field, are_numbered, Entries, IsRefusalOfText, Doc, kind_of, IsCodeOfValues, refusals_are_of_values, value_refusal, paragraph_text, IsRefusalOfDocument, rules_of, refusal_or, value_refusal_of, have_names, canonical_entries, refused_or_built, built}

abbrev IsCode : Code → Type 0
IsCode code = (1 ≤ number_of code) × (number_of code ≤ 21)

-- that of a body is one of values
of_value : (o : Option Code) → IfSome o IsCodeOfValues → IfSome o IsCode
of_value None is = tt
of_value (Some code) is = (omega (arith, is.0), is.1)

of_fields : (doc : Doc) (fields : List Field) → list_all (λ field. nat_le 1 field.line) fields ≡ true → IfSome (value_refusal_of (rules_of doc) fields) IsRefusalOfDocument
of_fields doc [] numbered = tt
of_fields doc (field ∷ fields) numbered =
    let parts = and_parts (nat_le 1 field.line) (list_all (λ f. nat_le 1 f.line) fields) numbered in
    go (value_refusal doc (canonical_name field.name) field.body) (of_value (value_refusal doc (canonical_name field.name) field.body) (refusals_are_of_values (kind_of doc (canonical_name field.name)) field.body)) (leb-true 1 field.line parts.0) (of_fields doc fields parts.1)
  where
    go : (o : Option Code) → IfSome o IsCode → 1 ≤ field.line → IfSome (value_refusal_of (rules_of doc) fields) IsRefusalOfDocument → IfSome (refusal_or o field.line (value_refusal_of (rules_of doc) fields)) IsRefusalOfDocument
    go None is line rest = rest
    go (Some code) is line rest = record { least = is.0; most = is.1; line = line }

-- a refusal that is built is one of a document
pub built-code : (doc : Doc) (seen : Seen) (refusal : Refusal) → are_numbered seen.first seen.fields ≡ true → built (rules_of doc) seen ≡ Err refusal → IsRefusalOfDocument refusal
built-code doc seen refusal numbered is = go (value_refusal_of (rules_of doc) seen.fields) (of_fields doc seen.fields parts.1) is
  where
    parts : (nat_le 1 seen.first ≡ true) × (list_all (λ field. nat_le 1 field.line) seen.fields ≡ true)
    parts = and_parts (nat_le 1 seen.first) (list_all (λ field. nat_le 1 field.line) seen.fields) numbered

    same : (a : Refusal) (r : Result Entries Refusal) → r ≡ Err a → r ≡ Err refusal → a ≡ refusal
    same a r e f = cc

    late : (t u : Bool) → cond (not t) (Err (record { code = MissingField; line = seen.first })) (cond (not u) (Err (record { code = ParagraphTooLong; line = seen.first })) (Ok (canonical_entries (rules_of doc) seen.fields))) ≡ Err refusal → IsRefusalOfDocument refusal
    late false u e = subst IsRefusalOfDocument (same _ _ refl e) (record { least = omega arith; most = omega arith; line = leb-true 1 seen.first parts.0 })
    late true false e = subst IsRefusalOfDocument (same _ _ refl e) (record { least = omega arith; most = omega arith; line = leb-true 1 seen.first parts.0 })
    late true true e = absurd (cc)

    go : (o : Option Refusal) → IfSome o IsRefusalOfDocument → refused_or_built (rules_of doc) seen o ≡ Err refusal → IsRefusalOfDocument refusal
    go (Some other) of e = subst IsRefusalOfDocument (same other _ refl e) of
    go None of e = late (have_names seen.fields (rules_of doc).required) (nat_le (length (paragraph_text (canonical_entries (rules_of doc) seen.fields))) paragraph_limit) e

-- and so is one of a reader of paragraphs
pub readers_fault : (fault : Fault) → IsReadersFault fault IsRefusalOfText → IsReadersFault fault IsRefusalOfDocument
readers_fault (Refused refusal) is = record { least = is.least; most = omega (arith, is.most); line = is.line }
readers_fault Memory is = tt
readers_fault Read is = tt
readers_fault Write is = is
