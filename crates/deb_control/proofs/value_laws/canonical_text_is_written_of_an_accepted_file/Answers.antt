use Rattle.deb_control.proofs.Accepting.{accepted_is_written}
use Rattle.deb_control.proofs.value_laws.canonical_text_is_written_of_an_accepted_file.Goals as goal

pub returns : goal.returns
returns g c = λ kind rules are. accepted_is_written g.V.Canon.Meaning (λ name. g.V.Canon.Spells (kind name)) g.V.Canon.text_of (λ name. g.met.V.Canon.law (kind name)) rules are
