use Rattle.debctl_ffi.proofs.Loading.{loads_more}
use Rattle.debctl_ffi.proofs.loaded.Loaded.read_more.Goals as goal

pub returns-in-Some : goal.returns-in-Some
returns-in-Some c =
    loads_more c.args.text.now c.args.self c.in-Some.index c.read_more.result _ _ c.in-Some.is (rw c.in-Some.is at c.read_more.ensures.ok) (rw c.in-Some.is at c.read_more.ensures.lines)
    (rw c.in-Some.is at c.read_more.ensures.counts) c.read_more.ensures.fault c.keep.ensures
