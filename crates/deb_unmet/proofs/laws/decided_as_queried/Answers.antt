use Rattle.deb_unmet.proofs.Decided.{decided_as_queried}
use Rattle.deb_unmet.proofs.laws.decided_as_queried.Goals as goal

pub returns : goal.returns
returns c = decided_as_queried
