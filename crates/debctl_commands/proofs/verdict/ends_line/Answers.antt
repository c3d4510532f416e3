use Rattle.std.proofs.Common.{◌≡◌, suc, ◌-◌, length, sym, arith}
use Rattle.debctl_commands.proofs.WholeReports.{ends_line-last}
use Rattle.debctl_commands.proofs.verdict.ends_line.Goals as goal

pub returns-then-count-gt0 : goal.returns-then-count-gt0
returns-then-count-gt0 c =
    let long : length c.args.text.now ≡ suc (length c.args.text.now - 1) = omega arith in
    sym (ends_line-last c.args.text.now (length c.args.text.now - 1) long)
