use Rattle.deb_latest.proofs.AskedAgain.{latest_text_is_its_own}
use Rattle.deb_latest.proofs.laws.latest_text_is_its_own.Goals as goal

pub returns : goal.returns
returns c = latest_text_is_its_own
