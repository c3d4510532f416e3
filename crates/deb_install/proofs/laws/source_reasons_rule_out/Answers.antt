use Rattle.deb_install.proofs.SourcesRuledOut.{source_reasons_rule_out}
use Rattle.deb_install.proofs.laws.source_reasons_rule_out.Goals as goal

pub returns : goal.returns
returns c = source_reasons_rule_out
