use Rattle.deb_select.proofs.Outputs.{outputs_follow}
use Rattle.deb_select.proofs.laws.outputs_follow.Goals as goal

pub returns : goal.returns
returns c = outputs_follow
