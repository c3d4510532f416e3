use Rattle.std.proofs.Common.{rules, tests, ◌++◌, map, ap, ◌∙◌}
use Rattle.std.proofs.lemmas.Iterator.Consumers.{YieldsList-end}
use Rattle.std.proofs.lemmas.Iterator.Splits.{YieldsList-from_slice_split}
use Rattle.deb_select.proofs.shown_value.push_pieces.Goals as goal

pub returns : goal.returns
returns c =
    let begins = YieldsList-from_slice_split {s = c.into_iter-piece-iterator.result} _ _ c.args.word.now (rw c.into_iter-piece-iterator.ensures.into_iter_gives c.split-piece-items.ensures.rest)
    (rw c.into_iter-piece-iterator.ensures.into_iter_gives c.split-piece-items.ensures.done) (rw c.into_iter-piece-iterator.ensures.into_iter_gives c.split-piece-items.ensures.closure) (λ x r q k. search (rules, tests)) in
    let all = YieldsList-end begins c.loop-piece.yielded _ c.loop-piece.yielded_by _ _ c.in-None.is c.next.ensures.steps in
    c.loop-piece.invariant ∙ ap (λ l. map (λ name. name.now) c.args.names.now.items ++ l) all.0
