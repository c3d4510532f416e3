use Rattle.std.proofs.Common.{◌++◌, map, ap, ◌∙◌}
use Rattle.std.proofs.lemmas.List.{take_all}
use Rattle.std.specs.List.{flat_map}
use Rattle.deb_relation.specs.Texts.{item_text}
use Rattle.deb_relation.specs.Views.{item_of}
use Rattle.deb_select.specs.JsonTokens.{text_tokens}
use Rattle.deb_select.proofs.Pushed.{map-fused}
use Rattle.deb_select.proofs.json_relation.put_items.Goals as goal

pub returns-clause-tokens : goal.returns-clause-tokens
returns-clause-tokens c =
    c.loop-item.invariant.0
    ∙ ap (λ l. c.args.out.now.tokens ++ flat_map text_tokens l)
    (ap (map (λ item. item_text (item_of item))) (take_all c.loop-item.item-index c.args.items.now c.loop-item-test.false) ∙ map-fused item_text item_of c.args.items.now)
