use Rattle.deb_select.proofs.SelectedLists.{joined_conditions_intersect}
use Rattle.deb_select.proofs.laws.joined_conditions_intersect.Goals as goal

pub returns : goal.returns
returns c = joined_conditions_intersect
