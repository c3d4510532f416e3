use Rattle.deb_latest.proofs.FilesWritten.{both_passes_agree}
use Rattle.deb_latest.proofs.laws.both_passes_agree.Goals as goal

pub returns : goal.returns
returns c = both_passes_agree
