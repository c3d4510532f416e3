use Rattle.std.proofs.Common.{codes}
use Rattle.deb_relation.specs.Texts.{restrictions_text}
use Rattle.deb_relation.specs.Views.{restrictions_of}
use Rattle.deb_relation.proofs.Joining.{IsAppended}
use Rattle.deb_relation.proofs.formula.append_formula.Given as goal

abbrev pub invariant-loop-list : goal.invariant-loop-list
invariant-loop-list l = IsAppended (codes " ") restrictions_text restrictions_of l.lists l.initial.out.items l.out.items l.list-index
