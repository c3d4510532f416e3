use Rattle.std.proofs.Common.{codes}
use Rattle.deb_relation.specs.Texts.{restrictions_text}
use Rattle.deb_relation.specs.Views.{restrictions_of}
use Rattle.deb_relation.proofs.Joining.{appended-end}
use Rattle.deb_relation.proofs.formula.append_formula.Goals as goal

pub returns : goal.returns
returns c = appended-end (codes " ") restrictions_text restrictions_of c.args.lists.now c.args.out.now.items c.loop-list.out.items c.loop-list.list-index c.loop-list-test.false c.loop-list.invariant
