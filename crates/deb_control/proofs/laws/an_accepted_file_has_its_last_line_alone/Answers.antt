use Rattle.deb_control.proofs.AcceptedStreams.{accepted_has_one_line}
use Rattle.deb_control.proofs.laws.an_accepted_file_has_its_last_line_alone.Goals as goal

pub returns : goal.returns
returns c = accepted_has_one_line
