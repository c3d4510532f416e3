use Rattle.deb_version.proofs.Common.{rules, is_ascii_digit}
use Rattle.deb_version.proofs.ByteLemmas.{none_fails-all, none_fails-fact}
use Rattle.deb_version.proofs.prefix.are_digits.Goals as goal

pub returns : goal.returns
returns c = λ is. none_fails-fact is_ascii_digit c.args.bytes.now (none_fails-all is_ascii_digit c.args.bytes.now (search rules))
