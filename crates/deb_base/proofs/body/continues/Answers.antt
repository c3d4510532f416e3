use Rattle.std.proofs.Common.{drop, ap, ◌∙◌, rules, tests}
use Rattle.std.proofs.lemmas.Iterator.Adapters.{YieldsList-from_skip}
use Rattle.std.proofs.lemmas.Iterator.Consumers.{YieldsList-at}
use Rattle.std.proofs.lemmas.Iterator.Search.{all_from_yields_List}
use Rattle.std.proofs.lemmas.Iterator.Splits.{YieldsList-from_slice_split}
use Rattle.std.specs.List.{list_all}
use Rattle.deb_base.specs.Bodies.{is_continuation}
use Rattle.deb_base.proofs.BodyLemmas.{slice_split-pieces_of}
use Rattle.deb_base.proofs.body.continues.Goals as goal

pub returns : goal.returns
returns c =
    all_from_yields_List is_continuation _ _ _ c.all.ensures.ran
    (YieldsList-from_skip 1 (YieldsList-at c.skip.ensures.source (YieldsList-from_slice_split _ _ c.args.body.now c.split.ensures.rest c.split.ensures.done c.split.ensures.closure (λ x r q k. search (rules, tests)))) c.skip.ensures.count)
    (λ x r q k. search (rules, tests))
    ∙ ap (λ lines. list_all is_continuation (drop 1 lines)) (slice_split-pieces_of c.args.body.now)
