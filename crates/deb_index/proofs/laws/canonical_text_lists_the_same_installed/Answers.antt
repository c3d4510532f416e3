use Rattle.deb_index.proofs.ListedOnce.{installed_are_meant as the_law}
use Rattle.deb_index.proofs.laws.canonical_text_lists_the_same_installed.Goals as goal

pub returns : goal.returns
returns c = the_law
