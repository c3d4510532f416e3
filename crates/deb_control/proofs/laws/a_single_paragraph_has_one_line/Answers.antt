use Rattle.deb_control.proofs.SingleDocuments.{single_has_one}
use Rattle.deb_control.proofs.laws.a_single_paragraph_has_one_line.Goals as goal

pub returns : goal.returns
returns c = single_has_one
