use Rattle.std.proofs.Common.{codes}
use Rattle.deb_relation.specs.Groups.{group_of}
use Rattle.deb_relation.specs.Texts.{group_text}
use Rattle.deb_relation.proofs.Joining.{IsAppended}
use Rattle.deb_relation.proofs.relation.append_more_groups.Given as goal

abbrev pub invariant-loop-group : goal.invariant-loop-group
invariant-loop-group l = IsAppended (codes ", ") group_text group_of l.groups l.initial.out.items l.out.items l.group-index
