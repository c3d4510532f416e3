use Rattle.deb_unmet.proofs.AddedPackages.{added_packages_add_no_line}
use Rattle.deb_unmet.proofs.laws.added_packages_add_no_line.Goals as goal

pub returns : goal.returns
returns c = added_packages_add_no_line
