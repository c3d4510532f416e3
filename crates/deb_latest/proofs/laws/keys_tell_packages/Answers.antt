use Rattle.deb_latest.proofs.Packages.{keys-tell}
use Rattle.deb_latest.proofs.laws.keys_tell_packages.Goals as goal

pub returns : goal.returns
returns c = keys-tell
