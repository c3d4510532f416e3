use Rattle.deb_select.proofs.SelectedLists.{selected_are_selected}
use Rattle.deb_select.proofs.laws.selected_are_selected.Goals as goal

pub returns : goal.returns
returns c = selected_are_selected
