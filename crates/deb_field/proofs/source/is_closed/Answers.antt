use Rattle.std.proofs.Common.{◌≡◌, suc, ◌-◌, length, sym, arith}
use Rattle.deb_field.specs.SourceLaws.{ends-closed}
use Rattle.deb_field.proofs.source.is_closed.Goals as goal

pub returns-then-count-gt0 : goal.returns-then-count-gt0
returns-then-count-gt0 c =
    let long : length c.args.text.now ≡ suc (length c.args.text.now - 1) = omega arith in
    sym (ends-closed c.args.text.now (length c.args.text.now - 1) long)
