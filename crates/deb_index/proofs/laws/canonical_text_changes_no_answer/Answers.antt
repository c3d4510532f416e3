use Rattle.deb_index.proofs.ListedOnce.{changes_no_answer as the_law}
use Rattle.deb_index.proofs.laws.canonical_text_changes_no_answer.Goals as goal

pub returns : goal.returns
returns c = the_law
