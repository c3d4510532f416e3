-- What holds of each total order.
use Rattle.deb_version.proofs.Common.{le_total, version_total}
use Rattle.deb_version.proofs.laws.order_is_total.Goals as goal

pub returns : goal.returns
returns c = record {
  total = le_total version_total;
  reversed = λ a b. version_total.antisymm b a;
  total_order = version_total;
}
