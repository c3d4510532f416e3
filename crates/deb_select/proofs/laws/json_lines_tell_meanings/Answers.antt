use Rattle.deb_select.proofs.JsonMeanings.{json_lines_tell_meanings}
use Rattle.deb_select.proofs.laws.json_lines_tell_meanings.Goals as goal

pub returns : goal.returns
returns c = json_lines_tell_meanings
