-- What the packages of an index in memory with an environment are.
use Rattle.std.specs.Prelude.{◌≡◌, IsTrue}
use Rattle.deb_index.specs.declared.members.Members.TheVariants.{All}
use Rattle.deb_install.specs.ReadPackages.{HoldsFile}
use Rattle.deb_relation.specs.Environments.{environment_of}
use Rattle.deb_relation.specs.Targets.{is_environment}
use Rattle.debctl_ffi.specs.Unmet.{Asker, environment_in}
use Rattle.debctl_ffi.specs.declared.buildable.Builder.{Builder}

-- The environment is good and this one, and the packages are those of the index.
pub record IsBuilder (by : Asker) (builder : Builder) : Type 0 where
  pub good : IsTrue (is_environment by.target by.profiles)
  pub packages : HoldsFile All by.index builder.packages
  pub environment : environment_of builder.environment ≡ environment_in by
