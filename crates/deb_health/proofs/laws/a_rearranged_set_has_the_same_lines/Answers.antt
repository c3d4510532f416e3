use Rattle.deb_health.proofs.SameReasons.{rearranging}
use Rattle.deb_health.proofs.laws.a_rearranged_set_has_the_same_lines.Goals as goal

pub returns : goal.returns
returns c = rearranging
