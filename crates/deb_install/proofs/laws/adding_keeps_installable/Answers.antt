use Rattle.deb_install.proofs.Adding.{adding}
use Rattle.deb_install.proofs.laws.adding_keeps_installable.Goals as goal

pub returns : goal.returns
returns c = adding
