use Rattle.deb_select.proofs.SameValues.{equality_is_of_meanings}
use Rattle.deb_select.proofs.laws.equality_is_of_meanings.Goals as goal

pub returns : goal.returns
returns c = equality_is_of_meanings
