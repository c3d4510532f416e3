use Rattle.deb_install.proofs.RuledOut.{reasons_rule_out}
use Rattle.deb_install.proofs.laws.reasons_rule_out.Goals as goal

pub returns : goal.returns
returns c = reasons_rule_out
