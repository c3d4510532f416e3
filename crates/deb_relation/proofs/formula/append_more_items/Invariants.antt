use Rattle.std.proofs.Common.{codes}
use Rattle.deb_relation.specs.Texts.{item_text}
use Rattle.deb_relation.specs.Views.{item_of}
use Rattle.deb_relation.proofs.Joining.{IsAppended}
use Rattle.deb_relation.proofs.formula.append_more_items.Given as goal

abbrev pub invariant-loop-item : goal.invariant-loop-item
invariant-loop-item l = IsAppended (codes " ") item_text item_of l.items l.initial.out.items l.out.items l.item-index
