use Rattle.std.proofs.Common.{◌∙◌}
use Rattle.deb_relation.specs.Views.{restrictions_of}
use Rattle.deb_relation.specs.Applying.{all_hold}
use Rattle.deb_relation.specs.Environments.{environment_of}
use Rattle.deb_relation.proofs.Mapped.{any-map}
use Rattle.deb_relation.proofs.alternative.some_holds.Goals as goal

pub returns : goal.returns
returns c = c.some_list_holds.ensures ∙ any-map restrictions_of (all_hold (environment_of c.args.environment.now).profiles) c.args.lists.now
