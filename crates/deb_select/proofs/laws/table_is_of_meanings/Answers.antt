use Rattle.deb_select.proofs.FormOutputs.{table_output}
use Rattle.deb_select.proofs.laws.table_is_of_meanings.Goals as goal

pub returns : goal.returns
returns c = table_output
