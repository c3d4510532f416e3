use Rattle.deb_latest.proofs.FilesRead.{files_have_their_paragraphs}
use Rattle.deb_latest.proofs.laws.files_have_their_paragraphs.Goals as goal

pub returns : goal.returns
returns c = files_have_their_paragraphs
