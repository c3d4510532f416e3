use Rattle.std.proofs.Common.{◌≡◌, length}
use Rattle.deb_select.proofs.GroupChunks.{ChunksSoFar}
use Rattle.deb_select.proofs.json_relation.put_chunks.Given as goal

abbrev pub invariant-loop-chunk : goal.invariant-loop-chunk
invariant-loop-chunk l = ChunksSoFar l.piece l.rest l.initial.out.tokens l.out.tokens × (l.out.before ≡ l.initial.out.before)

abbrev pub decreases-loop-chunk : goal.decreases-loop-chunk
decreases-loop-chunk l = length l.rest
