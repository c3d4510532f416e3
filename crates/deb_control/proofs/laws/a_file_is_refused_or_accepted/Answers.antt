use Rattle.deb_control.proofs.Common.{ValueMeaning, value_text, SpellsValue, value_law, rules_of}
use Rattle.deb_control.proofs.Accepting.{refused_or_accepted}
use Rattle.deb_control.proofs.DocumentRules.{document_rules}
use Rattle.deb_control.proofs.laws.a_file_is_refused_or_accepted.Goals as goal

pub returns : goal.returns
returns c = λ doc. refused_or_accepted ValueMeaning (SpellsValue doc) value_text (value_law doc) (rules_of doc) (document_rules doc)
