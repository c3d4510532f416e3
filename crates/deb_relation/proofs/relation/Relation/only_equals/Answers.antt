use Rattle.std.proofs.Common.{ap, ◌∙◌}
use Rattle.std.specs.List.{list_all}
use Rattle.deb_relation.specs.Groups.{group_of}
use Rattle.deb_relation.specs.Tests.{has_equal_bound}
use Rattle.deb_relation.proofs.Mapped.{all-map}
use Rattle.deb_relation.proofs.relation.Relation.only_equals.Goals as goal

pub returns : goal.returns
returns c = c.each_has_only_equals.ensures ∙ ap (λ ys. list_all (λ y. (list_all has_equal_bound) (group_of y)) ys) c.deref.ensures.value ∙ all-map group_of (list_all has_equal_bound) c.args.self.now.groups.items
