use Rattle.deb_install.proofs.UnmetLines.{unmet_is_not}
use Rattle.deb_install.proofs.laws.unmet_is_not_installable.Goals as goal

pub returns : goal.returns
returns c = unmet_is_not
