use Rattle.std.proofs.Common.{◌≡◌, map}
use Rattle.deb_relation.specs.Formulas.{profiles_of}
use Rattle.deb_relation.specs.Views.{restrictions_of}
use Rattle.deb_relation.proofs.formula.items_of_lists.Given as goal

abbrev pub invariant-loop-list : goal.invariant-loop-list
invariant-loop-list l = map restrictions_of l.all.items ≡ map profiles_of l.yielded
