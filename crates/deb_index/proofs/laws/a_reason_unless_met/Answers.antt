use Rattle.deb_index.proofs.Reasoned.{reason_unless_met as the_law}
use Rattle.deb_index.proofs.laws.a_reason_unless_met.Goals as goal

pub returns : goal.returns
returns c = the_law
