use Rattle.deb_diff.proofs.SpelledVersions.{spelled_versions_are_equal}
use Rattle.deb_diff.proofs.laws.spelled_versions_are_equal.Goals as goal

pub returns : goal.returns
returns c = spelled_versions_are_equal
