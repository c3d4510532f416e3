use Rattle.deb_install.proofs.EveryOne.{every_one}
use Rattle.deb_install.proofs.laws.every_reading_is_one.Goals as goal

pub returns : goal.returns
returns c = every_one
