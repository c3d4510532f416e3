use Rattle.deb_latest.proofs.FilesWritten.{faults_leave_a_prefix, parts_are_written}
use Rattle.deb_latest.proofs.laws.faults_leave_a_prefix.Goals as goal

pub returns-clause-read : goal.returns-clause-read
returns-clause-read c = parts_are_written

pub returns-clause-files : goal.returns-clause-files
returns-clause-files c = faults_leave_a_prefix
