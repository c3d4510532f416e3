use Rattle.deb_relation.proofs.SpelledGroups.{one_relation as the_law}
use Rattle.deb_relation.proofs.laws.spells_one_relation.Goals as goal

pub returns : goal.returns
returns c = the_law
