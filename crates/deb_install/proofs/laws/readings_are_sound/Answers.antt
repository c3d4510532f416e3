use Rattle.deb_install.proofs.NameMeanings.{readings_are_sound}
use Rattle.deb_install.proofs.laws.readings_are_sound.Goals as goal

pub returns : goal.returns
returns c = readings_are_sound
