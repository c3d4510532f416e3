-- What was found for the alternatives so far.
use Rattle.std.proofs.Common.{length}
use Rattle.deb_relation.specs.Environments.{environment_of}
use Rattle.deb_index.specs.CanonicalTexts.{OfGroup}
use Rattle.deb_index.specs.Indexes.{packages_of}
use Rattle.deb_index.proofs.Joined.{FoundBy}
use Rattle.deb_index.proofs.TextPieces.{AlternativesRead}
use Rattle.deb_index.proofs.candidates.numbers_meeting.Given as goal

abbrev pub invariant-loop-rest : goal.invariant-loop-rest
invariant-loop-rest l = OfGroup l.group (λ group. AlternativesRead (FoundBy (environment_of l.environment) (packages_of l.index) l.applies l.numbers.items) group l.rest)

abbrev pub decreases-loop-rest : goal.decreases-loop-rest
decreases-loop-rest l = length l.rest
