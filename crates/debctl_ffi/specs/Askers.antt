-- What an index in memory with an environment is.
use Rattle.std.specs.Prelude.{◌≡◌}
use Rattle.deb_index.specs.Indexes.{packages_of}
use Rattle.deb_relation.specs.Environments.{environment_of}
use Rattle.debctl_ffi.specs.Unmet.{Asker, IsGoodAsker, environment_in}
use Rattle.debctl_ffi.specs.declared.asker.Asker.{Asker as Loaded}

-- Its environment is this one, and it has the packages that the index lists.
pub record IsAsker (by : Asker) (loaded : Loaded) : Type 0 where
  pub good : IsGoodAsker by (packages_of loaded.index)
  pub environment : environment_of loaded.environment ≡ environment_in by
