use Rattle.std.proofs.Common.{◌∙◌}
use Rattle.deb_relation.specs.Applying.{applies}
use Rattle.deb_relation.specs.Environments.{environment_of}
use Rattle.deb_relation.specs.Views.{alternative_of}
use Rattle.deb_relation.proofs.Mapped.{any-map}
use Rattle.deb_index.proofs.judging.some_applies.Goals as goal

pub returns : goal.returns
returns c = c.some_is_asked.ensures ∙ any-map alternative_of (λ a. applies a (environment_of c.args.environment.now)) c.args.group.now
