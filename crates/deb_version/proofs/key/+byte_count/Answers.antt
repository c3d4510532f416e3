use Rattle.deb_version.proofs.Common.{arith}
use Rattle.std.proofs.lemmas.Int.Digits.{length-digits_of_step}
use Rattle.deb_version.proofs.KeyWritten.{length-bytes}
use Rattle.deb_version.proofs.key.+byte_count.Goals as goal

pub returns-else-count-eq0-clause-value : goal.returns-else-count-eq0-clause-value
returns-else-count-eq0-clause-value t c =
    omega (arith, c.byte_count.ensures.value, length-digits_of_step 256 c.args.count (omega arith) (omega (arith, c.if-count-eq0.false)))

pub returns-else-count-eq0-clause-bound : goal.returns-else-count-eq0-clause-bound
returns-else-count-eq0-clause-bound t c =
    omega (arith, c.byte_count.ensures.value, length-digits_of_step 256 c.args.count (omega arith) (omega (arith, c.if-count-eq0.false)), length-bytes c.args.count c.ranges.count.fits)
