use Rattle.deb_install.proofs.InstallableRows.{rows_decide}
use Rattle.deb_install.proofs.laws.rows_decide.Goals as goal

pub returns : goal.returns
returns c = rows_decide
