use Rattle.deb_select.proofs.JsonReading.{json_lines_tell_tokens}
use Rattle.deb_select.proofs.laws.json_lines_tell_tokens.Goals as goal

pub returns : goal.returns
returns c = json_lines_tell_tokens
