use Rattle.deb_latest.proofs.Filtered.{winners-again}
use Rattle.deb_latest.proofs.laws.winners_win.Goals as goal

pub returns : goal.returns
returns c = winners-again
