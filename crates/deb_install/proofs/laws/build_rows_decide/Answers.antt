use Rattle.deb_install.proofs.BuildRows.{build_rows_decide}
use Rattle.deb_install.proofs.laws.build_rows_decide.Goals as goal

pub returns : goal.returns
returns c = build_rows_decide
