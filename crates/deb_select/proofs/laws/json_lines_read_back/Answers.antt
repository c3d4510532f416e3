use Rattle.deb_select.proofs.JsonReading.{json_lines_read_back}
use Rattle.deb_select.proofs.laws.json_lines_read_back.Goals as goal

pub returns : goal.returns
returns c = json_lines_read_back
