use Rattle.std.proofs.Common.{ap, ◌∙◌}
use Rattle.std.specs.List.{list_any}
use Rattle.deb_relation.specs.Groups.{group_of}
use Rattle.deb_relation.specs.Tests.{has_wildcard}
use Rattle.deb_relation.proofs.Mapped.{any-map}
use Rattle.deb_relation.proofs.relation.Relation.has_wildcard.Goals as goal

pub returns : goal.returns
returns c = c.some_has_wildcard.ensures ∙ ap (λ ys. list_any (λ y. (list_any has_wildcard) (group_of y)) ys) c.deref.ensures.value ∙ any-map group_of (list_any has_wildcard) c.args.self.now.groups.items
