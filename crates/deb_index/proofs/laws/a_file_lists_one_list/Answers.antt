use Rattle.deb_index.proofs.ListedOnce.{lists_once as the_law}
use Rattle.deb_index.proofs.laws.a_file_lists_one_list.Goals as goal

pub returns : goal.returns
returns c = the_law
