use Rattle.deb_unmet.proofs.Meanings.{lines_say_readings}
use Rattle.deb_unmet.proofs.laws.lines_say_readings.Goals as goal

pub returns : goal.returns
returns c = lines_say_readings
