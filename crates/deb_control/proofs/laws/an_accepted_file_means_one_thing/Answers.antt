use Rattle.deb_control.proofs.Common.{ValueMeaning, value_text, SpellsValue, value_law, rules_of}
use Rattle.deb_control.proofs.Accepting.{accepted_means_one_thing}
use Rattle.deb_control.proofs.laws.an_accepted_file_means_one_thing.Goals as goal

pub returns : goal.returns
returns c = λ doc. accepted_means_one_thing ValueMeaning (SpellsValue doc) value_text (value_law doc) (rules_of doc)
