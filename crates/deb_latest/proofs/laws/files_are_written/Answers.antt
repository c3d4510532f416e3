use Rattle.deb_latest.proofs.FilesWritten.{files_are_written, no_file_is_written}
use Rattle.deb_latest.proofs.laws.files_are_written.Goals as goal

pub returns-clause-none : goal.returns-clause-none
returns-clause-none c = no_file_is_written

pub returns-clause-next : goal.returns-clause-next
returns-clause-next c = files_are_written
