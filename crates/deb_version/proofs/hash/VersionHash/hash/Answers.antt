-- The epoch is a run of digits.
use Rattle.deb_version.proofs.Common.{ap, ◌∙◌, refl, is_ascii_digit, list_all}
use Rattle.deb_version.proofs.AllowedLemmas.{epoch_digits}
use Rattle.deb_version.proofs.hash.VersionHash.hash.Goals as goal

pub invariant_of-epoch : goal.invariant_of-epoch
invariant_of-epoch g c = record { run_digits = ap (λ r. list_all is_ascii_digit r.now) c.unwrap_or.ensures ∙ epoch_digits c.args.self.now _ refl }
