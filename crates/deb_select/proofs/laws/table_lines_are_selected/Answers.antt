use Rattle.deb_select.proofs.FormOutputs.{lines_of_table}
use Rattle.deb_select.proofs.laws.table_lines_are_selected.Goals as goal

pub returns : goal.returns
returns c = lines_of_table
