use Rattle.std.proofs.Common.{ap, ◌∙◌}
use Rattle.std.specs.List.{list_any}
use Rattle.deb_relation.specs.Groups.{group_of}
use Rattle.deb_relation.specs.Tests.{has_two}
use Rattle.deb_relation.proofs.Mapped.{any-map}
use Rattle.deb_relation.proofs.relation.Relation.has_alternatives.Goals as goal

pub returns : goal.returns
returns c = c.some_has_two.ensures ∙ ap (λ ys. list_any (λ y. has_two (group_of y)) ys) c.deref.ensures.value ∙ any-map group_of has_two c.args.self.now.groups.items
