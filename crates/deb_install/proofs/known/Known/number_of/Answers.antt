use Rattle.std.proofs.Common.{◌∙◌}
use Rattle.deb_install.proofs.Noted.{number-had}
use Rattle.deb_install.proofs.known.Known.number_of.Goals as goal

pub returns : goal.returns
returns c = number-had _ _ (c.copied.ensures ∙ c.get.ensures.value)
