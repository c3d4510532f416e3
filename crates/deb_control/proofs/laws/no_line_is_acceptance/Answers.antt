use Rattle.deb_control.proofs.AcceptedStreams.{no_line_is_accepted}
use Rattle.deb_control.proofs.laws.no_line_is_acceptance.Goals as goal

pub returns : goal.returns
returns c = no_line_is_accepted
