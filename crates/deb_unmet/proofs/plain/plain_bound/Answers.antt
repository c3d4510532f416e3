use Rattle.deb_version.specs.Version.{meaning_of}
use Rattle.deb_unmet.proofs.PlainGroups.{bound_spelled}
use Rattle.deb_unmet.proofs.plain.plain_bound.Goals as goal

pub returns-in-Ok : goal.returns-in-Ok
returns-in-Ok c = bound_spelled c.args.after.now c.in_ok-operator.rest.now c.in_ok-version.version.now c.in_ok-operator.operator (meaning_of c.in-Ok.version) c.in_ok-operator.ensures c.in_ok-version.ensures c.in-Ok.ensures.ok
