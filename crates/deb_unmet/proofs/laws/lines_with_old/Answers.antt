use Rattle.deb_unmet.proofs.AddedPackages.{lines_with_old}
use Rattle.deb_unmet.proofs.laws.lines_with_old.Goals as goal

pub returns : goal.returns
returns c = lines_with_old
