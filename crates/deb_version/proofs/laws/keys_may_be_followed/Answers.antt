use Rattle.deb_version.proofs.KeyOrder.{keys_followed}
use Rattle.deb_version.proofs.laws.keys_may_be_followed.Goals as goal

pub returns : goal.returns
returns c = keys_followed
