use Rattle.deb_relation.proofs.CanonicalBody.{canonical_text_is_body as the_law}
use Rattle.deb_relation.proofs.laws.canonical_text_is_body.Goals as goal

pub returns : goal.returns
returns c = the_law
