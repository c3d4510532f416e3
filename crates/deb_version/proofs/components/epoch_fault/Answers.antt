use Rattle.deb_version.proofs.Common.{rules, option_copied, ap, is_ascii_digit}
use Rattle.deb_version.proofs.ByteLemmas.{none_fails-all}
use Rattle.deb_version.proofs.FaultLemmas.{epoch_allowed}
use Rattle.deb_version.proofs.components.epoch_fault.Goals as goal

pub returns : goal.returns
returns c =
    let only_digits = none_fails-all is_ascii_digit c.in-Some.digits.now (search rules) in
    epoch_allowed (option_copied c.args.epoch) c.in-Some.digits.now (ap option_copied c.in-Some.is) (search rules) only_digits
