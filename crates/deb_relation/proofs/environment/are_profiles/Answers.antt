use Rattle.std.proofs.Common.{◌∙◌}
use Rattle.deb_relation.specs.Views.{name_key}
use Rattle.deb_base.specs.PackageNames.{is_profile_name}
use Rattle.deb_relation.proofs.Mapped.{all-map}
use Rattle.deb_relation.proofs.environment.are_profiles.Goals as goal

pub returns : goal.returns
returns c = c.each_is_profile.ensures ∙ all-map name_key is_profile_name c.args.names.now
