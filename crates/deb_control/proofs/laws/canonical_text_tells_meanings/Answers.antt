use Rattle.deb_control.proofs.Common.{ValueMeaning, value_text, SpellsValue, value_law, rules_of}
use Rattle.deb_control.proofs.Accepting.{canonical_text_tells_accepted}
use Rattle.deb_control.proofs.laws.canonical_text_tells_meanings.Goals as goal

pub returns : goal.returns
returns c = λ doc. canonical_text_tells_accepted ValueMeaning (SpellsValue doc) value_text (value_law doc) (rules_of doc)
