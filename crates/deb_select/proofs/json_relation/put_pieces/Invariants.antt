use Rattle.std.proofs.Common.{◌≡◌, length}
use Rattle.deb_select.proofs.RelationPieces.{WrittenSoFar}
use Rattle.deb_select.proofs.json_relation.put_pieces.Given as goal

abbrev pub invariant-loop-piece : goal.invariant-loop-piece
invariant-loop-piece l = WrittenSoFar l.text l.rest l.last l.initial.out.tokens l.out.tokens × (l.out.before ≡ l.initial.out.before)

abbrev pub decreases-loop-piece : goal.decreases-loop-piece
decreases-loop-piece l = length l.rest
