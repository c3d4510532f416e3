use Rattle.std.proofs.Common.{◌*◌, ◌≤◌, length, subst, sym}
use Rattle.deb_version.specs.Version.{meaning_of}
use Rattle.deb_field.specs.VersionLaw.{version_law}
use Rattle.deb_field.proofs.version.VersionCanon.canon_len.Goals as goal

pub returns-clause-short : goal.returns-clause-short
returns-clause-short c body s =
    subst (λ n. n ≤ 2 * length body) (sym c.canon_len.ensures.value)
    (version_law.is_short body (meaning_of c.args.self.now) s)
