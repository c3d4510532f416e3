use Rattle.std.proofs.Common.{◌≡◌, ◌++◌, map, take}
use Rattle.std.specs.List.{flat_map}
use Rattle.deb_select.specs.JsonTokens.{text_tokens}
use Rattle.deb_relation.specs.Views.{item_of}
use Rattle.deb_relation.specs.Texts.{item_text}
use Rattle.deb_select.proofs.json_relation.put_items.Given as goal

abbrev pub invariant-loop-item : goal.invariant-loop-item
invariant-loop-item l = (l.out.tokens ≡ l.initial.out.tokens ++ flat_map text_tokens (map (λ item. item_text (item_of item)) (take l.item-index l.items))) × (l.out.before ≡ l.initial.out.before)
