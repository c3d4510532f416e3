use Rattle.std.proofs.Common.{◌∙◌, ◌-◌, ap}
use Rattle.debctl_ffi.specs.Blanks.{blank_text_from}
use Rattle.debctl_ffi.proofs.BlankTexts.{from_first}
use Rattle.debctl_ffi.proofs.blank_lines.BlankText.new.Goals as goal

pub returns : goal.returns
returns c =
    ap (λ k. blank_text_from k c.args.lines (c.args.spaces - k)) c.share-first.ensures.value ∙ from_first c.args.lines c.args.spaces
