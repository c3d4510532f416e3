use Rattle.deb_control.proofs.SeenRefusals.{first_is_refusal}
use Rattle.deb_control.proofs.laws.the_first_refusal_is_of_the_file.Goals as goal

pub returns : goal.returns
returns c = first_is_refusal
