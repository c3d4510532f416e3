use Rattle.std.proofs.Common.{sym}
use Rattle.deb_version.specs.Version.{meaning_of}
use Rattle.deb_version.proofs.KeptVersions.{version_in-spelled}
use Rattle.deb_index.proofs.entry.version_of.Goals as goal

pub returns : goal.returns
returns c = sym (version_in-spelled c.args.text.now (meaning_of c.in-Ok.version) c.in-Ok.ensures.ok)
