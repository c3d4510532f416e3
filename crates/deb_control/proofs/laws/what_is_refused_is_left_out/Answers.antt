use Rattle.deb_control.proofs.StreamLaws.{refused_is_left_out}
use Rattle.deb_control.proofs.laws.what_is_refused_is_left_out.Goals as goal

pub returns : goal.returns
returns c = refused_is_left_out
