use Rattle.deb_control.proofs.Accepting.{canonical_text_is_its_own}
use Rattle.deb_control.proofs.value_laws.canonical_text_is_its_own.Goals as goal

pub returns : goal.returns
returns g c = λ kind rules are. canonical_text_is_its_own g.V.Canon.Meaning (λ name. g.V.Canon.Spells (kind name)) g.V.Canon.text_of (λ name. g.met.V.Canon.law (kind name)) rules are
