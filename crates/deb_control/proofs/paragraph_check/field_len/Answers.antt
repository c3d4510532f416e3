use Rattle.deb_control.proofs.Common.{◌+◌, ap, ◌∙◌, length, min, most}
use Rattle.deb_control.proofs.Lengths.{length-counted}
use Rattle.deb_control.proofs.paragraph_check.field_len.Goals as goal

pub returns : goal.returns
returns c = λ text counted spaced.
    let name = c.args.name.now in
    c.saturating_add.ensures
    ∙ ap (λ n. min n most) (length-counted c.args.spaced name text _ _ spaced counted (ap (λ n. length name + 2 + n) c.from-space.ensures))
