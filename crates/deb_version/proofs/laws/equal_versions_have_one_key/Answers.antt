use Rattle.deb_version.proofs.KeyOrder.{equal_keys}
use Rattle.deb_version.proofs.laws.equal_versions_have_one_key.Goals as goal

pub returns : goal.returns
returns c = equal_keys
