use Rattle.std.proofs.Common.{◌≡◌, suc, ◌-◌, length, sym, ◌∙◌, arith}
use Rattle.deb_base.proofs.BodyLemmas.{ends_with_blank-last}
use Rattle.deb_base.proofs.blank.ends_with_blank.Goals as goal

pub returns-then-count-gt0 : goal.returns-then-count-gt0
returns-then-count-gt0 c =
    let long : length c.args.text.now ≡ suc (length c.args.text.now - 1) = omega arith in
    c.is_blank_byte.ensures ∙ sym (ends_with_blank-last c.args.text.now (length c.args.text.now - 1) long)
