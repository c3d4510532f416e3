-- What the order of keys is doesn't depend on what was written.
use Rattle.deb_version.proofs.Common.{components_of}
use Rattle.deb_version.proofs.KeyOrder.{sorts_as_its_version}
use Rattle.deb_version.proofs.version.Version.key_into.Goals as goal

pub returns-then-is_err-clause-sorts : goal.returns-then-is_err-clause-sorts
returns-then-is_err-clause-sorts c = sorts_as_its_version (components_of c.args.self.now)

pub returns-else-is_err-clause-sorts : goal.returns-else-is_err-clause-sorts
returns-else-is_err-clause-sorts c = sorts_as_its_version (components_of c.args.self.now)
