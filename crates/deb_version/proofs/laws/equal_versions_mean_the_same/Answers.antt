-- Parts that compare equal are the same.
use Rattle.deb_version.proofs.Common.{HasTexts-from_spelled, version_same}
use Rattle.deb_version.proofs.laws.equal_versions_mean_the_same.Goals as goal

pub returns : goal.returns
returns c = record {
  parts_of_texts = version_same;
  spelled = λ s t a b p q. version_same a b (HasTexts-from_spelled s a p) (HasTexts-from_spelled t b q);
}
