use Rattle.std.proofs.Common.{◌∙◌, ◌-◌, ◌∷◌, ap, sym}
use Rattle.debctl_ffi.specs.Blanks.{blank_text_from}
use Rattle.debctl_ffi.proofs.BlankTexts.{newline_next, space_next}
use Rattle.debctl_ffi.proofs.blank_lines.BlankText.next.Goals as goal

pub returns-then-self-gt0 : goal.returns-then-self-gt0
returns-then-self-gt0 c = space_next c.args.self.now.first c.args.self.now.lines c.args.self.now.spaces c.if-self-gt0.true c.requires

pub returns : goal.returns
returns c =
    newline_next c.args.self.now.first c.args.self.now.lines c.args.self.now.spaces c.if-self-gt0.false c.requires
    ∙ ap (λ k. 10 ∷ blank_text_from k (c.args.self.now.lines - 1) (c.args.self.now.spaces - k)) (sym c.share-self.ensures.value)
