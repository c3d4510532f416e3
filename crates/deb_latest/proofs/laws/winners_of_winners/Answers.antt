use Rattle.deb_latest.proofs.Joined.{winners-joined}
use Rattle.deb_latest.proofs.laws.winners_of_winners.Goals as goal

pub returns : goal.returns
returns c = winners-joined
