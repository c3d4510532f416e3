use Rattle.deb_diff.proofs.Permuted.{no_line_if_permuted}
use Rattle.deb_diff.proofs.laws.no_line_if_permuted.Goals as goal

pub returns : goal.returns
returns c = no_line_if_permuted
