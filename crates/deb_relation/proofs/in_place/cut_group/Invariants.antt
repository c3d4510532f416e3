use Rattle.std.proofs.Common.{length}
use Rattle.deb_relation.proofs.InPlace.{PrecedesAlternative}
use Rattle.deb_relation.proofs.in_place.cut_group.Given as goal

abbrev pub invariant-loop-is_equal : goal.invariant-loop-is_equal
invariant-loop-is_equal l = PrecedesAlternative l.fn.text l.has_two l.only_equals l.next

abbrev pub decreases-loop-is_equal : goal.decreases-loop-is_equal
decreases-loop-is_equal l = length l.next
