use Rattle.debctl_ffi.proofs.Loading.{loads}
use Rattle.debctl_ffi.proofs.loaded.Loaded.read.Goals as goal

pub returns : goal.returns
returns c =
    loads c.args.text.now c.read_index.result _ _ c.read_index.ensures.ok c.read_index.ensures.lines c.read_index.ensures.counts c.read_index.ensures.fault
    c.keep.ensures
