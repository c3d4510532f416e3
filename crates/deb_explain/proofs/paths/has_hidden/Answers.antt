use Rattle.std.proofs.Common.{ap, sym, ◌∙◌, map-id}
use Rattle.std.specs.List.{list_any}
use Rattle.std.specs.Str.{chars}
use Rattle.std.proofs.lemmas.Iterator.{YieldsList-from_chars}
use Rattle.std.proofs.lemmas.Iterator.Consumers.{YieldsList-end, YieldsList-turn}
use Rattle.std.proofs.lemmas.List.Folds.{list_any_at}
use Rattle.deb_explain.specs.Paths.{is_hidden}
use Rattle.deb_explain.proofs.paths.has_hidden.Goals as goal

pub returns-then-is_hidden : goal.returns-then-is_hidden
returns-then-is_hidden c =
    let turn = YieldsList-turn (YieldsList-from_chars c.args.text.now c.utf8.text cc) c.loop-c.yielded _ c.loop-c.yielded_by _ _ c.in-Some.c c.in-Some.is c.next.ensures.steps in
    sym (list_any_at is_hidden (chars c.args.text.now) _ c.in-Some.c turn.0 (ap is_hidden (sym turn.1) ∙ sym c.is_hidden.ensures ∙ c.if-is_hidden.true))

pub returns : goal.returns
returns c =
    let end = YieldsList-end (YieldsList-from_chars c.args.text.now c.utf8.text cc) c.loop-c.yielded _ c.loop-c.yielded_by _ _ c.in-None.is c.next.ensures.steps in
    sym (ap (list_any is_hidden) (sym end.0 ∙ map-id c.loop-c.yielded) ∙ c.loop-c.invariant)
