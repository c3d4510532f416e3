use Rattle.std.proofs.Common.{refl}
use Rattle.debctl_ffi.specs.Wanting.{wanted_of}
use Rattle.debctl_ffi.proofs.OneFile.{lines_wanted}
use Rattle.debctl_ffi.proofs.options.lines_with.Goals as goal

pub returns-in-Ok-lines_in-clause-ok : goal.returns-in-Ok-lines_in-clause-ok
returns-in-Ok-lines_in-clause-ok c =
    lines_wanted (wanted_of c.args.wanted.now) c.args.loaded.now c.args.unless.now _ _ _ _ _ _ _ c.in-Ok-lines_in.ensures.ok c.in-Some.ensures.some
    c.in-Ok.ensures.0 c.in-Ok.ensures.1 c.in-Some-index.is refl c.in-Some-index_of.ensures.some refl
