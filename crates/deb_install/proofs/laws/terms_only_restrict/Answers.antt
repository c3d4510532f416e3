use Rattle.deb_install.proofs.Restricting.{restricting}
use Rattle.deb_install.proofs.laws.terms_only_restrict.Goals as goal

pub returns : goal.returns
returns c = restricting
