use Rattle.deb_select.proofs.FormOutputs.{fields_output}
use Rattle.deb_select.proofs.laws.fields_output_is_text.Goals as goal

pub returns : goal.returns
returns c = fields_output
