use Rattle.deb_select.proofs.FittingParagraphs.{selected_text_is_accepted}
use Rattle.deb_select.proofs.laws.selected_text_is_accepted.Goals as goal

pub returns : goal.returns
returns c = selected_text_is_accepted
