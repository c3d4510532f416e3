use Rattle.deb_version.proofs.FaultLemmas.{epoch_has_any_size}
use Rattle.deb_version.proofs.laws.epoch_has_any_size.Goals as goal

pub returns : goal.returns
returns c = epoch_has_any_size
