-- The canonical text of a paragraph that passes.
use Rattle.deb_control.proofs.Common.{◌≡◌, ◌≤◌, IsTrue, List, ℕ, None, true, is_ok, length, sym, ap, ◌∙◌, subst, arith, bytes_eq-Decides, Seen, Doc, paragraph_text, rules_of, is_judged, is_passing, is_text_of, text_built, built, canonical_entries, have_names, value_refusal_of}
use Rattle.deb_control.proofs.Building.{built-passing}
use Rattle.deb_control.proofs.Measured.{limit_is}
use Rattle.deb_control.proofs.Passing.{built-from_parts}

-- a text that is that of what is built
pub passing-text : (doc : Doc) (seen : Seen) (text : List ℕ) → IsTrue (is_judged doc seen) → text ≡ text_built (built (rules_of doc) seen) → IsTrue (is_passing doc seen text)
passing-text doc seen text passes is =
    let found = built-passing doc seen passes in
    subst (λ r. IsTrue (is_text_of r text)) (sym found.1) ((bytes_eq-Decides text (paragraph_text found.0)).1 (is ∙ ap text_built found.1))

-- the text of a paragraph whose values are good, that lacks no field and isn't too long
pub built-written : (doc : Doc) (seen : Seen) (text : List ℕ) → value_refusal_of (rules_of doc) seen.fields ≡ None → text ≡ paragraph_text (canonical_entries (rules_of doc) seen.fields) → have_names seen.fields (rules_of doc).required ≡ true → length text ≤ 16777216 → IsTrue (is_judged doc seen) × (text ≡ text_built (built (rules_of doc) seen))
built-written doc seen text good is named short =
    let found = built-from_parts (rules_of doc) seen good named (omega (arith, limit_is, ap length is, short)) in
    (ap is_ok found, is ∙ ap text_built (sym found))
