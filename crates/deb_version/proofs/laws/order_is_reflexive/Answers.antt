-- What holds of each total order.
use Rattle.deb_version.proofs.Common.{tied_itself, version_total}
use Rattle.deb_version.proofs.laws.order_is_reflexive.Goals as goal

pub returns : goal.returns
returns c = tied_itself version_total
