use Rattle.std.proofs.Common.{◌-◌, length, drop, ap, ◌∙◌}
use Rattle.deb_install.proofs.FileAnswers.{if-value}
use Rattle.deb_install.proofs.builds.last_verdicts.Goals as goal

pub returns : goal.returns
returns c =
    if-value _ _ (λ last is. record { verdicts = c.in_ok-verdicts.verdicts.items; are = c.in_ok-verdicts.ensures; is = is ∙ ap (λ v. drop (length v - c.args.count) v) c.deref.ensures.value })
    c.last_of.result c.last_of.ensures
