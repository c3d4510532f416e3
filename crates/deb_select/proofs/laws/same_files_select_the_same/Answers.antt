use Rattle.deb_select.proofs.SelectedLists.{same_files_select_the_same}
use Rattle.deb_select.proofs.laws.same_files_select_the_same.Goals as goal

pub returns : goal.returns
returns c = same_files_select_the_same
