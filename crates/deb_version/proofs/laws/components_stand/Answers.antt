use Rattle.deb_version.proofs.ComponentsLemmas.{spelling-components_in, components_in-spelling}
use Rattle.deb_version.proofs.laws.components_stand.Goals as goal

pub returns : goal.returns
returns c = record { spell = spelling-components_in; stand = components_in-spelling }
