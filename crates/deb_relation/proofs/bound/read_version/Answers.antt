use Rattle.deb_version.specs.Version.{meaning_of}
use Rattle.deb_relation.proofs.Versions.{version_in}
use Rattle.deb_relation.proofs.bound.read_version.Goals as goal

pub returns-in-Ok : goal.returns-in-Ok
returns-in-Ok c = version_in c.args.text.now c.cut_before.result.0.now c.skip_white.result.now (meaning_of c.in-Ok.version) c.cut_before.ensures.run (rw c.cut_before.ensures.behind at c.skip_white.ensures.value) c.in-Ok.ensures.ok
