use Rattle.std.proofs.Common.{codes}
use Rattle.deb_relation.specs.Groups.{group_of}
use Rattle.deb_relation.specs.Texts.{group_text}
use Rattle.deb_relation.proofs.Joining.{appended-end}
use Rattle.deb_relation.proofs.relation.append_more_groups.Goals as goal

pub returns : goal.returns
returns c = appended-end (codes ", ") group_text group_of c.args.groups.now c.args.out.now.items c.loop-group.out.items c.loop-group.group-index c.loop-group-test.false c.loop-group.invariant
