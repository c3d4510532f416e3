use Rattle.deb_relation.proofs.BegunRelation.{places_are_reached as the_law}
use Rattle.deb_relation.proofs.laws.places_are_reached.Goals as goal

pub returns : goal.returns
returns c = the_law
