use Rattle.std.proofs.Common.{[], length, map}
use Rattle.deb_relation.specs.Grammar.{set_of}
use Rattle.deb_relation.specs.Groups.{group_of}
use Rattle.deb_relation.specs.Reading.{next_piece, put_piece}
use Rattle.deb_relation.specs.Texts.{group_text}
use Rattle.deb_relation.proofs.Gathering.{IsRead}
use Rattle.deb_relation.proofs.relation.read_groups.Given as goal

abbrev pub invariant-loop-groups : goal.invariant-loop-groups
invariant-loop-groups l = IsRead next_piece put_piece [] l.fn.text (set_of group_text (map group_of l.groups.items)) l.rest

abbrev pub decreases-loop-groups : goal.decreases-loop-groups
decreases-loop-groups l = length l.rest
