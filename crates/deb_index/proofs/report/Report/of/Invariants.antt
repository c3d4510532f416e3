-- The answers for the groups so far.
use Rattle.std.proofs.Common.{length}
use Rattle.deb_relation.specs.Environments.{environment_of}
use Rattle.deb_index.specs.AnswerStores.{HasAnswers}
use Rattle.deb_index.specs.CanonicalTexts.{OfRelation}
use Rattle.deb_index.specs.Indexes.{packages_of}
use Rattle.deb_index.proofs.TextPieces.{GroupsRead}
use Rattle.deb_index.proofs.report.Report.of.Given as goal

abbrev pub invariant-loop-rest : goal.invariant-loop-rest
invariant-loop-rest l = OfRelation l.text (λ m. GroupsRead (λ done. HasAnswers (environment_of l.environment) (packages_of l.index) done l.answers) m l.rest)

abbrev pub decreases-loop-rest : goal.decreases-loop-rest
decreases-loop-rest l = length l.rest
