use Rattle.deb_base.proofs.CanonicalNames.{canonical_name-canonical_name}
use Rattle.deb_base.proofs.laws.canonical_name_is_stable.Goals as goal

pub returns : goal.returns
returns c = canonical_name-canonical_name
