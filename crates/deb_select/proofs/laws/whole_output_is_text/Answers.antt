use Rattle.deb_select.proofs.FormOutputs.{whole_output}
use Rattle.deb_select.proofs.laws.whole_output_is_text.Goals as goal

pub returns : goal.returns
returns c = whole_output
