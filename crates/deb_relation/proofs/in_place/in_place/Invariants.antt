use Rattle.std.proofs.Common.{length}
use Rattle.deb_relation.specs.InPlace.{BeginsRelation}
use Rattle.deb_relation.proofs.in_place.in_place.Given as goal

abbrev pub invariant-loop-next : goal.invariant-loop-next
invariant-loop-next l = BeginsRelation l.fn.text l.last l.has_two l.only_equals l.rest

abbrev pub decreases-loop-next : goal.decreases-loop-next
decreases-loop-next l = length l.rest
