use Rattle.deb_control.proofs.Common.{ValueMeaning, value_text, SpellsValue, value_law, rules_of}
use Rattle.deb_control.proofs.Accepting.{accepted_is_written}
use Rattle.deb_control.proofs.DocumentRules.{document_rules}
use Rattle.deb_control.proofs.laws.canonical_text_is_written_of_an_accepted_file.Goals as goal

pub returns : goal.returns
returns c = λ doc. accepted_is_written ValueMeaning (SpellsValue doc) value_text (value_law doc) (rules_of doc) (document_rules doc)
