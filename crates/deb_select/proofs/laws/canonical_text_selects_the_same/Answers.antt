use Rattle.deb_select.proofs.SelectedLists.{canonical_text_selects_the_same}
use Rattle.deb_select.proofs.laws.canonical_text_selects_the_same.Goals as goal

pub returns : goal.returns
returns c = canonical_text_selects_the_same
