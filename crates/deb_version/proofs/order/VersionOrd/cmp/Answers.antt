-- Each answer is the order of the versions: it is Equal exactly if their canonical texts are one.
use Rattle.deb_version.proofs.Common.{rules}
use Rattle.deb_version.proofs.EqualTexts.{equal_where_one_text}
use Rattle.deb_version.proofs.order.VersionOrd.cmp.Goals as goal

pub returns-then-is_ne-clause-canonical : goal.returns-then-is_ne-clause-canonical
returns-then-is_ne-clause-canonical c = equal_where_one_text c.args.self.now c.args.other.now c.compare_epochs-order.result (search rules)

pub returns-then-is_ne-2-clause-canonical : goal.returns-then-is_ne-2-clause-canonical
returns-then-is_ne-2-clause-canonical c = equal_where_one_text c.args.self.now c.args.other.now c.compare_components-order.result (search rules)

pub returns-clause-canonical : goal.returns-clause-canonical
returns-clause-canonical c = equal_where_one_text c.args.self.now c.args.other.now c.compare_components.result (search rules)
