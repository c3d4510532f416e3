-- A paragraph whose fields are spelled as those of one that passes.
use Rattle.deb_control.proofs.Common.{◌≡◌, ◌≤◌, IsTrue, List, [], ℕ, None, Some, true, get_or, slice_get, option_map, get_or_from_slice_get, Field, refl, sym, ap, ◌∙◌, subst, arith, length, bytes_eq-Decides, Seen, Doc, paragraph_text, rules_of, is_judged, is_passing, is_text_of, text_built, built, canonical_entries, have_names, is_none, is_ok, paragraph_limit, value_refusal_of, Result, Ok, Err, Entries, Refusal}
use Rattle.std.proofs.lemmas.Option.{slice_get-map}
use Rattle.deb_control.specs.SpelledAlike.{HasPassingText, spelled, spelled_in}
use Rattle.deb_control.specs.CanonTexts.{no_field}
use Rattle.deb_control.proofs.Measured.{limit_is}
use Rattle.deb_control.proofs.Passing.{IsBuilt, built-from_parts, built-parts}
use Rattle.deb_control.proofs.Renumbered.{none-by, placed_entries, placed_good, placed_have}

-- fields at one index
spelled-at : (fields : List Field) (i : ℕ) (field : Field) → slice_get fields i ≡ Some field → get_or (spelled_in fields) i no_field ≡ spelled field
spelled-at fields i field is = get_or_from_slice_get (spelled_in fields) i (spelled field) no_field (slice_get-map spelled fields i ∙ ap (option_map spelled) is)

pub alike-at : (fields others : List Field) (i : ℕ) (field other : Field) → slice_get fields i ≡ Some field → slice_get others i ≡ Some other → field.name ≡ other.name → field.body ≡ other.body → get_or (spelled_in fields) i no_field ≡ get_or (spelled_in others) i no_field
alike-at fields others i field other is is_too names bodies = spelled-at fields i field is ∙ rw (names, bodies) refl ∙ sym (spelled-at others i other is_too)

-- what is built of one that passes with a text
built_with : (r : Result Entries Refusal) (text : List ℕ) → IsTrue (is_text_of r text) → (entries : Entries) × (r ≡ Ok entries) × (text ≡ paragraph_text entries)
built_with (Ok entries) text is = (entries, refl, (bytes_eq-Decides text (paragraph_text entries)).0 is)
built_with (Err refusal) text is = absurd (cc)

-- It passes with the same text.
pub alike-passes : (doc : Doc) (seen other : Seen) (text : List ℕ) → spelled_in seen.fields ≡ spelled_in other.fields → IsTrue (is_passing doc other text) → HasPassingText doc seen text
alike-passes doc seen other text same passes =
    let rules = rules_of doc in
    let found = built_with (built rules other) text passes in
    let parts : IsBuilt rules other found.0 = built-parts rules other found.0 (value_refusal_of rules other.fields) refl found.1 in
    let line : Field → ℕ = λ field. 0 in
    let good : value_refusal_of rules seen.fields ≡ None = none-by _ _ (sym (placed_good line rules seen.fields) ∙ ap (λ l. is_none (value_refusal_of rules l)) same ∙ placed_good line rules other.fields) parts.good in
    let named : have_names seen.fields rules.required ≡ true = sym (placed_have line seen.fields rules.required) ∙ ap (λ l. have_names l rules.required) same ∙ placed_have line other.fields rules.required ∙ parts.named in
    let entries : canonical_entries rules other.fields ≡ canonical_entries rules seen.fields =
    sym (placed_entries line rules [] other.fields) ∙ sym (ap (λ l. canonical_entries rules l) same) ∙ placed_entries line rules [] seen.fields in
    let short : length text ≤ paragraph_limit = omega (arith, ap length found.2, ap (λ e. length (paragraph_text e)) parts.is, parts.short) in
    let is : text ≡ paragraph_text (canonical_entries rules seen.fields) = found.2 ∙ ap paragraph_text (parts.is ∙ entries) in
    let one = built-from_parts rules seen good named (subst (λ l. length l ≤ paragraph_limit) is short) in
    (subst (λ r. IsTrue (is_text_of r text)) (sym one) ((bytes_eq-Decides text _).1 is), short)

-- what its text says of a paragraph that passes
pub passing-has : (doc : Doc) (seen : Seen) (text : List ℕ) → HasPassingText doc seen text → IsTrue (is_judged doc seen) × (text ≡ text_built (built (rules_of doc) seen)) × (length text ≤ 16777216)
passing-has doc seen text has =
    let found = built_with (built (rules_of doc) seen) text has.0 in
    (ap is_ok found.1, found.2 ∙ ap text_built (sym found.1), omega (arith, limit_is, has.1))
