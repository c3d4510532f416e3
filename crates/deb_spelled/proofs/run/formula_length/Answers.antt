use Rattle.std.proofs.Common.{arith}
use Rattle.std.proofs.lemmas.List.Sums.{suffix_len-take_no}
use Rattle.deb_spelled.specs.Parts.{formula_len}
use Rattle.deb_spelled.proofs.run.formula_length.Goals as goal

pub returns-else-text-end-ne62 : goal.returns-else-text-end-ne62
unfolding formula_len
returns-else-text-end-ne62 c = grind (arith, suffix_len-take_no)

pub returns-after-loop-end : goal.returns-after-loop-end
unfolding formula_len
returns-after-loop-end c = grind arith
