use Rattle.std.proofs.Common.{◌∙◌, ◌++◌, drop, take, ap}
use Rattle.debctl_ffi.specs.Blanks.{blank_text}
use Rattle.debctl_ffi.specs.LongLines.{with_long}
use Rattle.debctl_ffi.proofs.KeptLines.{kept-more}
use Rattle.debctl_ffi.proofs.kept.Kept.push.Goals as goal

pub returns : goal.returns
returns c =
    let self = c.args.self.now in
    let blanks = blank_text self.lines self.spaces in
    ap (λ b. take self.front b ++ (blanks ++ with_long self.between self.long (drop self.front b))) c.in_ok-extend_from_slice.ensures.items
    ∙ kept-more self.bytes.items c.args.text.now blanks self.front self.between self.long self.within
