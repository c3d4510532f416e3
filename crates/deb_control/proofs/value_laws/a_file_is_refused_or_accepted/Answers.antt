use Rattle.deb_control.proofs.Accepting.{refused_or_accepted}
use Rattle.deb_control.proofs.value_laws.a_file_is_refused_or_accepted.Goals as goal

pub returns : goal.returns
returns g c = λ kind rules are. refused_or_accepted g.V.Canon.Meaning (λ name. g.V.Canon.Spells (kind name)) g.V.Canon.text_of (λ name. g.met.V.Canon.law (kind name)) rules are
