use Rattle.deb_index.proofs.Reasoned.{change_no_answer as the_law}
use Rattle.deb_index.proofs.laws.reasons_change_no_answer.Goals as goal

pub returns : goal.returns
returns c = the_law
