use Rattle.deb_latest.proofs.FittingParagraphs.{latest_text_is_accepted}
use Rattle.deb_latest.proofs.laws.latest_text_is_accepted.Goals as goal

pub returns : goal.returns
returns c = latest_text_is_accepted
