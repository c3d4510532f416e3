use Rattle.deb_control.proofs.RefusalLines.{refusal_of_the_file}
use Rattle.deb_control.proofs.laws.a_refusal_is_of_the_file.Goals as goal

pub returns : goal.returns
returns c = refusal_of_the_file
