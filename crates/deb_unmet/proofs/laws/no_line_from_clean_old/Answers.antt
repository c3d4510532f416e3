use Rattle.deb_unmet.proofs.AddedPackages.{no_line_from_clean_old}
use Rattle.deb_unmet.proofs.laws.no_line_from_clean_old.Goals as goal

pub returns : goal.returns
returns c = no_line_from_clean_old
