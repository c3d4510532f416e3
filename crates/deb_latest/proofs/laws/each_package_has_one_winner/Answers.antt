use Rattle.deb_latest.proofs.Filtered.{one-winner}
use Rattle.deb_latest.proofs.laws.each_package_has_one_winner.Goals as goal

pub returns : goal.returns
returns c = one-winner
