use Rattle.deb_spelled.proofs.Showing.{parts_show}
use Rattle.deb_spelled.proofs.laws.parts_show_alternatives.Goals as goal

pub returns : goal.returns
returns c = parts_show
