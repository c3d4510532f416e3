use Rattle.deb_version.proofs.Common.{◌==◌, ◌∙◌, ap, length, sym}
use Rattle.deb_version.proofs.CanonicalCuts.{is_no_revision-parts_of}
use Rattle.deb_version.proofs.canonical.is_no_revision.Goals as goal

pub returns : goal.returns
returns c = c.is_empty.ensures ∙ ap (λ l. length l == 0) c.without_zeros.ensures ∙ sym (is_no_revision-parts_of c.args.revision.now)
