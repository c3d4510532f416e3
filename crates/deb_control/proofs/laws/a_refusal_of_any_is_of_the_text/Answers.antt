use Rattle.deb_control.proofs.RefusalsOfAny.{refusal_of_any}
use Rattle.deb_control.proofs.laws.a_refusal_of_any_is_of_the_text.Goals as goal

pub returns : goal.returns
returns c = refusal_of_any
