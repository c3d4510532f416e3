use Rattle.deb_latest.proofs.Filtered.{is-latest}
use Rattle.deb_latest.proofs.laws.winners_are_latest.Goals as goal

pub returns : goal.returns
returns c = is-latest
