use Rattle.std.proofs.Common.{◌∙◌}
use Rattle.deb_select.proofs.ExactNumbers.{too_great}
use Rattle.deb_select.proofs.json_line.exact_number.Goals as goal

pub returns-then-value-gt-MOST_EXACT : goal.returns-then-value-gt-MOST_EXACT
returns-then-value-gt-MOST_EXACT c =
    too_great c.loop-digit.value 9007199254740992 c.from.result c.args.digits.now c.loop-digit.digit-index c.loop-digit-test.true c.loop-digit.invariant.0 (c.from.ensures ∙ c.saturating_sub.ensures) c.if-value-gt-MOST_EXACT.true
