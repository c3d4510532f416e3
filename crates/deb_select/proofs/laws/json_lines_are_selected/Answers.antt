use Rattle.deb_select.proofs.JsonNewlines.{json_lines_are_selected}
use Rattle.deb_select.proofs.laws.json_lines_are_selected.Goals as goal

pub returns : goal.returns
returns c = json_lines_are_selected
