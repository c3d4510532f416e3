use Rattle.deb_install.proofs.Rearranging.{rearranging}
use Rattle.deb_install.proofs.laws.rearranging_keeps_installable.Goals as goal

pub returns : goal.returns
returns c = rearranging
