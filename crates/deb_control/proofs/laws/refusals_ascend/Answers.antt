use Rattle.deb_control.proofs.Ascending.{refusals_ascend}
use Rattle.deb_control.proofs.laws.refusals_ascend.Goals as goal

pub returns : goal.returns
returns c = refusals_ascend
