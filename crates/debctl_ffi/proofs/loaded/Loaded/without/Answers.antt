use Rattle.deb_relation.specs.Views.{names_of}
use Rattle.debctl_ffi.proofs.Loading.{leaves_out}
use Rattle.debctl_ffi.proofs.loaded.Loaded.without.Goals as goal

pub returns-in-Some : goal.returns-in-Some
returns-in-Some c =
    leaves_out (names_of c.args.names.now) c.args.self c.in-Some.index c.without.result _ _ c.in-Some.is (rw c.in-Some.is at c.without.ensures.packages) (rw c.in-Some.is at c.without.ensures.lines)
    (rw c.in-Some.is at c.without.ensures.counts) c.without.ensures.memory c.keep.ensures
