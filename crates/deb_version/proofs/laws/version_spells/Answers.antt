use Rattle.deb_version.proofs.MeaningLemmas.{version_spelled}
use Rattle.deb_version.proofs.laws.version_spells.Goals as goal

pub returns : goal.returns
returns c = version_spelled c.args.version
