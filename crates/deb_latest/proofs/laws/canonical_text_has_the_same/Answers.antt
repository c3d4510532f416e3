use Rattle.std.proofs.Common.{◌≡◌, ◌++◌, ℕ, List, ap}
use Rattle.deb_base.specs.declared.doc.Doc.{Doc}
use Rattle.deb_field.specs.ValueLaws.{value_law}
use Rattle.deb_field.specs.Values.{ValueMeaning, value_text, SpellsValue}
use Rattle.deb_control.specs.Documents.{Accepted, Meaning, rules_of, canonical_text}
use Rattle.deb_control.proofs.Accepting.{accepted_means_one_thing, canonical_text_is_accepted}
use Rattle.deb_latest.specs.Entries.{doc_of}
use Rattle.deb_latest.specs.Requests.{latest_of}
use Rattle.deb_latest.proofs.laws.canonical_text_has_the_same.Goals as goal

same_meaning : (doc : Doc) (text : List ℕ) (meaning again : Meaning) → Accepted doc text meaning → Accepted doc (canonical_text meaning) again → again ≡ meaning
same_meaning doc text meaning again means means_again =
    accepted_means_one_thing ValueMeaning (SpellsValue doc) value_text (value_law doc) (rules_of doc) (canonical_text meaning) again meaning means_again
    (canonical_text_is_accepted ValueMeaning (SpellsValue doc) value_text (value_law doc) (rules_of doc) text meaning means)

pub returns : goal.returns
returns c = λ asked before after meaning other text accepted again.
    ap (λ m. latest_of asked (before ++ (m ++ after))) (same_meaning (doc_of asked.kind) text meaning other accepted again)
