-- Equal versions mean the same, and what is fed is a function of the meaning.
use Rattle.deb_version.proofs.Common.{ap, HasTexts-from_spelled, version_same}
use Rattle.deb_version.specs.Hashes.{version_writes}
use Rattle.deb_version.proofs.laws.equal_versions_hash_equally.Goals as goal

pub returns : goal.returns
returns c = λ s t m n p q e.
    ap version_writes ((version_same m n (HasTexts-from_spelled s m p) (HasTexts-from_spelled t n q)).0 e)
