use Rattle.deb_unmet.proofs.Readings.{readings_decide}
use Rattle.deb_unmet.proofs.laws.readings_decide.Goals as goal

pub returns : goal.returns
returns c = readings_decide
