use Rattle.deb_control.proofs.Remaining.{all_of_file_remains}
use Rattle.deb_control.proofs.laws.a_file_without_refusals_remains.Goals as goal

pub returns : goal.returns
returns c = all_of_file_remains
