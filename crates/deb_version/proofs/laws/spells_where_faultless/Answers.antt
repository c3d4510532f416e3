use Rattle.deb_version.proofs.FaultLemmas.{no_fault-from_spells, spells-from_no_fault}
use Rattle.deb_version.proofs.laws.spells_where_faultless.Goals as goal

pub returns : goal.returns
returns c = λ text. (λ s. no_fault-from_spells text s.0 s.1, λ none. (_, spells-from_no_fault text none))
