use Rattle.deb_index.proofs.FilesJoined.{a_further_file_joins as the_law}
use Rattle.deb_index.proofs.laws.a_further_file_joins.Goals as goal

pub returns : goal.returns
returns c = the_law
