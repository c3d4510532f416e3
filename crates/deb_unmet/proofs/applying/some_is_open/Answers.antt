use Rattle.std.proofs.Common.{◌∙◌}
use Rattle.deb_relation.specs.Views.{name_key}
use Rattle.deb_relation.proofs.Mapped.{any-map}
use Rattle.deb_unmet.specs.Readings.{is_open}
use Rattle.deb_unmet.proofs.applying.some_is_open.Goals as goal

pub returns : goal.returns
returns c = c.some_name_is_open.ensures ∙ any-map name_key is_open c.args.names.now
