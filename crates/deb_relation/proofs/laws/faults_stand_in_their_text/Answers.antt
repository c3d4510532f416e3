use Rattle.deb_relation.proofs.Faultless.{faults_stand as the_law}
use Rattle.deb_relation.proofs.laws.faults_stand_in_their_text.Goals as goal

pub returns : goal.returns
returns c = the_law
