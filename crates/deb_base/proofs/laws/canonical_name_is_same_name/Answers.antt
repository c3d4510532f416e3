use Rattle.deb_base.proofs.CanonicalNames.{folded-canonical_name}
use Rattle.deb_base.proofs.laws.canonical_name_is_same_name.Goals as goal

pub returns : goal.returns
returns c = folded-canonical_name
