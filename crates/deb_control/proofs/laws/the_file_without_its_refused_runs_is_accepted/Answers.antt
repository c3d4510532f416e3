use Rattle.deb_control.proofs.Remaining.{remaining_is_accepted}
use Rattle.deb_control.proofs.laws.the_file_without_its_refused_runs_is_accepted.Goals as goal

pub returns : goal.returns
returns c = remaining_is_accepted
