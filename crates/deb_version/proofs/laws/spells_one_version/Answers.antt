use Rattle.deb_version.proofs.MeaningLemmas.{one_version}
use Rattle.deb_version.proofs.laws.spells_one_version.Goals as goal

pub returns : goal.returns
returns c = one_version
