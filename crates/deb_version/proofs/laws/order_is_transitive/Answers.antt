-- What holds of each total order.
use Rattle.deb_version.proofs.Common.{equal_trans, ge_trans, le_trans, version_total}
use Rattle.deb_version.proofs.laws.order_is_transitive.Goals as goal

pub returns : goal.returns
returns c = record {
  less = version_total.trans;
  less_or_equal = le_trans version_total;
  greater_or_equal = ge_trans version_total;
  equal = equal_trans version_total;
}
