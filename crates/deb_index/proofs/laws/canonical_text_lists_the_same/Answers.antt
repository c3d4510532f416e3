use Rattle.deb_index.proofs.ListedOnce.{canonical_text_lists as the_law}
use Rattle.deb_index.proofs.laws.canonical_text_lists_the_same.Goals as goal

pub returns : goal.returns
returns c = the_law
