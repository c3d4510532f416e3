-- The ranks decide at the first difference.
use Rattle.deb_version.proofs.Common.{first_difference}
use Rattle.deb_version.proofs.laws.first_difference_decides.Goals as goal

pub returns : goal.returns
returns c = first_difference
