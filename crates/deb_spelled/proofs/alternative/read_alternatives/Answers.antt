use Rattle.deb_spelled.proofs.Refused.{no_relation}
use Rattle.deb_spelled.proofs.alternative.read_alternatives.Goals as goal

pub returns-in-Some-clause-accepted : goal.returns-in-Some-clause-accepted
returns-in-Some-clause-accepted c = no_relation c.args.text.now c.in-Some.fault c.in-Some.ensures
