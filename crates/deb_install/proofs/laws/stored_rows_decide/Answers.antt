use Rattle.deb_install.proofs.InstallableRows.{stored_rows_decide}
use Rattle.deb_install.proofs.laws.stored_rows_decide.Goals as goal

pub returns : goal.returns
returns c = stored_rows_decide
