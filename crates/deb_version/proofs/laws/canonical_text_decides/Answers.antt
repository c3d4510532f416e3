use Rattle.deb_version.proofs.CanonicalTexts.{canonical_text_decides as the_law}
use Rattle.deb_version.proofs.laws.canonical_text_decides.Goals as goal

pub returns : goal.returns
returns c = the_law
