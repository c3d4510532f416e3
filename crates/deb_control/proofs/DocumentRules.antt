-- The rules of a kind of document are those of its values.
use Rattle.deb_control.proofs.Common.{◌≡◌, ℕ, List, Option, None, Some, refl, sym, ap, ◌∙◌, Code, Doc, ValueMeaning, value_text, SpellsValue, value_refusal, value_law, value_refusals, AreRulesOf, rules_of, text_unless_refused}

text_is : (doc : Doc) (name body : List ℕ) (v : ValueMeaning) (o : Option Code) (e : value_refusal doc name body ≡ o) → SpellsValue doc name body v → text_unless_refused doc name body o e ≡ value_text v
text_is doc name body v None e s =
    let found = (value_refusals doc name).spelled body e in
    ap value_text ((value_law doc name).one_meaning body found.0 v found.1 s)
text_is doc name body v (Some code) e s =
    let none : None ≡ Some code = sym ((value_refusals doc name).unrefused body v s) ∙ e in
    absurd (cc)

pub document_rules : (doc : Doc) → AreRulesOf ValueMeaning (SpellsValue doc) value_text (rules_of doc)
document_rules doc = record {
  spelled = λ name body none. (value_refusals doc name).spelled body none;
  unrefused = λ name body v s. (value_refusals doc name).unrefused body v s;
  text = λ name body v s. text_is doc name body v (value_refusal doc name body) refl s;
}
