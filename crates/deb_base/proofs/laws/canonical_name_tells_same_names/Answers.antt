use Rattle.deb_base.proofs.CanonicalNames.{canonical_name-from_folded, folded-from_canonical_name}
use Rattle.deb_base.proofs.laws.canonical_name_tells_same_names.Goals as goal

pub returns : goal.returns
returns c = λ a b. (canonical_name-from_folded a b, folded-from_canonical_name a b)
