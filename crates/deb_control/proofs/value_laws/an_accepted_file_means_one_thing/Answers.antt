use Rattle.deb_control.proofs.Accepting.{accepted_means_one_thing}
use Rattle.deb_control.proofs.value_laws.an_accepted_file_means_one_thing.Goals as goal

pub returns : goal.returns
returns g c = λ kind rules. accepted_means_one_thing g.V.Canon.Meaning (λ name. g.V.Canon.Spells (kind name)) g.V.Canon.text_of (λ name. g.met.V.Canon.law (kind name)) rules
