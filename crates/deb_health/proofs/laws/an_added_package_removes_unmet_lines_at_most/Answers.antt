use Rattle.deb_health.proofs.AddedPackage.{adding}
use Rattle.deb_health.proofs.laws.an_added_package_removes_unmet_lines_at_most.Goals as goal

pub returns : goal.returns
returns c = adding
