use Rattle.deb_relation.proofs.Regular.{relation_regular as the_law}
use Rattle.deb_relation.proofs.laws.what_is_spelled_is_regular.Goals as goal

pub returns : goal.returns
returns c = the_law
