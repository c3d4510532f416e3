use Rattle.deb_health.proofs.NoLines.{no_line}
use Rattle.deb_health.proofs.laws.no_line_if_healthy.Goals as goal

pub returns : goal.returns
returns c = no_line
