use Rattle.std.proofs.Common.{◌∙◌, lit<}
use Rattle.std.proofs.lemmas.Iterator.Consumers.{YieldsList-end}
use Rattle.std.proofs.lemmas.Iterator.Splits.{YieldsList-from_str_split}
use Rattle.debctl_args.proofs.found_arguments.comma_pieces.Goals as goal

pub returns : goal.returns
returns c =
    let begins = YieldsList-from_str_split {s = c.into_iter-piece-iterator.result} 44 c.args.text.now (lit< tt) (rw c.into_iter-piece-iterator.ensures.into_iter_gives c.split-piece-items.ensures.text)
    (rw c.into_iter-piece-iterator.ensures.into_iter_gives c.split-piece-items.ensures.has_more) (rw c.into_iter-piece-iterator.ensures.into_iter_gives c.split-piece-items.ensures.pattern) in
    let all = YieldsList-end begins c.loop-piece.yielded _ c.loop-piece.yielded_by _ _ c.in-None.is c.next.ensures.steps in
    c.loop-piece.invariant ∙ all.0
