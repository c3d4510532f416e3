use Rattle.deb_relation.proofs.Faultless.{sets_ascend as the_law}
use Rattle.deb_relation.proofs.laws.sets_ascend.Goals as goal

pub returns : goal.returns
returns c = the_law
