use Rattle.std.proofs.Common.{ap, ◌∙◌}
use Rattle.deb_relation.specs.Grammar.{set_of}
use Rattle.deb_relation.specs.Texts.{item_text}
use Rattle.deb_relation.specs.Views.{items_of}
use Rattle.deb_relation.proofs.SetLemmas.{set_again}
use Rattle.deb_relation.proofs.formula.drop_items.Goals as goal

pub returns-in_ok-sort_items : goal.returns-in_ok-sort_items
returns-in_ok-sort_items c = ap (set_of item_text) c.in_ok-sort_items.ensures ∙ set_again item_text (items_of c.args.items.now.items)
