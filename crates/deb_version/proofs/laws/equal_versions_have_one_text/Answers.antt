use Rattle.deb_version.proofs.EqualTexts.{equal_versions_have_one_text as the_law}
use Rattle.deb_version.proofs.laws.equal_versions_have_one_text.Goals as goal

pub returns : goal.returns
returns c = the_law
