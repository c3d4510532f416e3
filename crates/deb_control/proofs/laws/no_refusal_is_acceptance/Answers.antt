use Rattle.deb_control.proofs.AcceptedStreams.{no_refusal_accepted}
use Rattle.deb_control.proofs.laws.no_refusal_is_acceptance.Goals as goal

pub returns : goal.returns
returns c = no_refusal_accepted
