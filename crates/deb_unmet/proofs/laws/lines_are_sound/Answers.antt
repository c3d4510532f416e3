use Rattle.deb_unmet.proofs.Meanings.{lines_are_sound}
use Rattle.deb_unmet.proofs.laws.lines_are_sound.Goals as goal

pub returns : goal.returns
returns c = lines_are_sound
