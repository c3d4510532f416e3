use Rattle.deb_control.proofs.Common.{ValueMeaning, value_text, SpellsValue, value_law, rules_of}
use Rattle.deb_control.proofs.Accepting.{canonical_text_is_its_own}
use Rattle.deb_control.proofs.DocumentRules.{document_rules}
use Rattle.deb_control.proofs.laws.canonical_text_is_its_own.Goals as goal

pub returns : goal.returns
returns c = λ doc. canonical_text_is_its_own ValueMeaning (SpellsValue doc) value_text (value_law doc) (rules_of doc) (document_rules doc)
