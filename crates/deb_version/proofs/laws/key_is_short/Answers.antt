use Rattle.deb_version.proofs.KeyLength.{key_is_short as the_law}
use Rattle.deb_version.proofs.laws.key_is_short.Goals as goal

pub returns : goal.returns
returns c = the_law
