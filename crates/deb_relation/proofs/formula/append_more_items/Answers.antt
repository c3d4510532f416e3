use Rattle.std.proofs.Common.{codes}
use Rattle.deb_relation.specs.Texts.{item_text}
use Rattle.deb_relation.specs.Views.{item_of}
use Rattle.deb_relation.proofs.Joining.{appended-end}
use Rattle.deb_relation.proofs.formula.append_more_items.Goals as goal

pub returns : goal.returns
returns c = appended-end (codes " ") item_text item_of c.args.items.now c.args.out.now.items c.loop-item.out.items c.loop-item.item-index c.loop-item-test.false c.loop-item.invariant
