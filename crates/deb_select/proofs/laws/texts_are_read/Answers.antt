use Rattle.deb_select.proofs.ReadTexts.{texts_are_read}
use Rattle.deb_select.proofs.laws.texts_are_read.Goals as goal

pub returns : goal.returns
returns c = texts_are_read
