use Rattle.std.proofs.Common.{ap, ◌∙◌}
use Rattle.std.specs.List.{list_all}
use Rattle.deb_relation.specs.Views.{alternative_of}
use Rattle.deb_relation.specs.Tests.{has_equal_bound}
use Rattle.deb_relation.proofs.Mapped.{all-map}
use Rattle.deb_relation.proofs.group.Group.only_equals.Goals as goal

pub returns : goal.returns
returns c = c.each_has_equal_bound.ensures ∙ ap (λ ys. list_all (λ y. has_equal_bound (alternative_of y)) ys) c.deref.ensures.value ∙ all-map alternative_of has_equal_bound c.args.self.now.alternatives.items
