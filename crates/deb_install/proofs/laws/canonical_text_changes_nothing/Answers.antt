use Rattle.deb_install.proofs.CanonicalTexts.{canonical}
use Rattle.deb_install.proofs.laws.canonical_text_changes_nothing.Goals as goal

pub returns : goal.returns
returns c = canonical
