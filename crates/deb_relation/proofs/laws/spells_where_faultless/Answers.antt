use Rattle.deb_relation.proofs.Faultless.{spells_where_faultless as the_law}
use Rattle.deb_relation.proofs.laws.spells_where_faultless.Goals as goal

pub returns : goal.returns
returns c = the_law
