-- What holds of each total order.
use Rattle.deb_version.proofs.Common.{alike_right, version_total}
use Rattle.deb_version.proofs.laws.equal_versions_compare_alike.Goals as goal

pub returns : goal.returns
returns c = λ a b d e. (version_total.congr a b d e, alike_right version_total a b d e)
