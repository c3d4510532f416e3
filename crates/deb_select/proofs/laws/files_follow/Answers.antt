use Rattle.deb_select.proofs.WrittenFiles.{files_follow}
use Rattle.deb_select.proofs.laws.files_follow.Goals as goal

pub returns : goal.returns
returns c = files_follow
