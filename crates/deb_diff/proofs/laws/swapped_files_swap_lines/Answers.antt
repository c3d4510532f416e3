use Rattle.std.proofs.Common.{sym}
use Rattle.deb_diff.specs.Items.{items_of}
use Rattle.deb_diff.proofs.Fated.{removed-added}
use Rattle.deb_diff.proofs.laws.swapped_files_swap_lines.Goals as goal

pub returns : goal.returns
returns c = λ kind text other old new. (removed-added (items_of kind text old) (items_of kind other new), sym (removed-added (items_of kind other new) (items_of kind text old)))
