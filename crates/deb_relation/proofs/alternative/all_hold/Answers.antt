use Rattle.std.proofs.Common.{◌∙◌}
use Rattle.deb_relation.specs.Views.{item_of}
use Rattle.deb_relation.specs.Applying.{item_holds}
use Rattle.deb_relation.specs.Environments.{environment_of}
use Rattle.deb_relation.proofs.Mapped.{all-map}
use Rattle.deb_relation.proofs.alternative.all_hold.Goals as goal

pub returns : goal.returns
returns c = c.each_holds.ensures ∙ all-map item_of (item_holds (environment_of c.args.environment.now).profiles) c.args.items.now
