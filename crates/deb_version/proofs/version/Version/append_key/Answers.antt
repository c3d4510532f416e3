-- An absent epoch is a run without digits, and an absent revision the empty text.
use Rattle.deb_version.proofs.Common.{◌∙◌, ap, list_all, is_ascii_digit, refl, subst, sym}
use Rattle.deb_version.specs.Keys.{AreAscii}
use Rattle.deb_version.proofs.AllowedLemmas.{epoch_digits}
use Rattle.deb_version.proofs.KeyWritten.{AreAscii-revision, AreAscii-upstream}
use Rattle.deb_version.proofs.version.Version.append_key.Goals as goal

pub append_number-requires : goal.append_number-requires
append_number-requires c = ap (λ r. list_all is_ascii_digit r.now) c.unwrap_or.ensures ∙ epoch_digits c.args.self.now _ refl

pub append_component-requires : goal.append_component-requires
append_component-requires c = AreAscii-upstream c.args.self.now

pub append_component-requires-2 : goal.append_component-requires-2
append_component-requires-2 c = subst (λ r. AreAscii r.now) (sym c.unwrap_or-2.ensures) (AreAscii-revision c.args.self.now _ refl)
