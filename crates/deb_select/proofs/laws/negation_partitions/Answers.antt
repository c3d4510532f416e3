use Rattle.deb_select.proofs.SelectedLists.{negation_partitions}
use Rattle.deb_select.proofs.laws.negation_partitions.Goals as goal

pub returns : goal.returns
returns c = negation_partitions
