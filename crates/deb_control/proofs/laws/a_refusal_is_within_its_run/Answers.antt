use Rattle.deb_control.proofs.Ascending.{runs_are_in_order}
use Rattle.deb_control.proofs.laws.a_refusal_is_within_its_run.Goals as goal

pub returns : goal.returns
returns c = runs_are_in_order
