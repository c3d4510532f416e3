-- What is known of the alternatives so far.
use Rattle.std.proofs.Common.{length}
use Rattle.deb_relation.specs.Environments.{environment_of}
use Rattle.deb_index.specs.CanonicalTexts.{OfGroup}
use Rattle.deb_index.specs.Indexes.{packages_of}
use Rattle.deb_index.proofs.TextPieces.{AlternativesRead}
use Rattle.deb_unmet.proofs.Groups.{Tried}
use Rattle.deb_unmet.proofs.group.trouble_of.Given as goal

abbrev pub invariant-loop-rest : goal.invariant-loop-rest
invariant-loop-rest l = OfGroup l.group (λ group. AlternativesRead (Tried (environment_of l.question.environment.now) (packages_of l.question.index.now) l.readings) group l.rest)

abbrev pub decreases-loop-rest : goal.decreases-loop-rest
decreases-loop-rest l = length l.rest
