use Rattle.deb_latest.proofs.FilesRead.{files_follow}
use Rattle.deb_latest.proofs.laws.files_follow.Goals as goal

pub returns : goal.returns
returns c = files_follow
