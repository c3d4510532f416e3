use Rattle.deb_relation.proofs.Faultless.{groups_ascend as the_law}
use Rattle.deb_relation.proofs.laws.groups_ascend.Goals as goal

pub returns : goal.returns
returns c = the_law
