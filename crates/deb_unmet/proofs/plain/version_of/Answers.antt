use Rattle.std.proofs.Common.{sym, ap, ◌∙◌}
use Rattle.deb_version.specs.Places.{version_in}
use Rattle.deb_version.specs.Version.{meaning_of}
use Rattle.deb_version.proofs.KeptVersions.{version_in-spelled}
use Rattle.deb_unmet.proofs.plain.version_of.Goals as goal

pub returns-in-Ok : goal.returns-in-Ok
returns-in-Ok c = sym (version_in-spelled c.version.result.now (meaning_of c.in-Ok.version) c.in-Ok.ensures.ok) ∙ ap version_in (c.version.ensures ∙ c.args.candidate.now.canonical)
