use Rattle.deb_select.proofs.FittingParagraphs.{selected_text_is_its_own}
use Rattle.deb_select.proofs.laws.selected_text_is_its_own.Goals as goal

pub returns : goal.returns
returns c = selected_text_is_its_own
