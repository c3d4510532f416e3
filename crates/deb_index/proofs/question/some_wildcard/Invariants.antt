-- No group so far has a wildcard.
use Rattle.std.proofs.Common.{◌≡◌, false, length}
use Rattle.deb_relation.specs.Tests.{some_wildcard}
use Rattle.deb_index.specs.CanonicalTexts.{OfRelation}
use Rattle.deb_index.proofs.TextPieces.{GroupsRead}
use Rattle.deb_index.proofs.question.some_wildcard.Given as goal

abbrev pub invariant-loop-rest : goal.invariant-loop-rest
invariant-loop-rest l = OfRelation l.text (λ m. GroupsRead (λ done. some_wildcard done ≡ false) m l.rest)

abbrev pub decreases-loop-rest : goal.decreases-loop-rest
decreases-loop-rest l = length l.rest
