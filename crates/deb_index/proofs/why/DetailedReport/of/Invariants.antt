-- The answers for the groups so far, and their lines.
use Rattle.std.proofs.Common.{length}
use Rattle.deb_relation.specs.Environments.{environment_of}
use Rattle.deb_index.specs.CanonicalTexts.{OfRelation}
use Rattle.deb_index.specs.Indexes.{packages_of}
use Rattle.deb_index.specs.ShownVersions.{shown_by}
use Rattle.deb_index.proofs.Details.{HasDetails}
use Rattle.deb_index.proofs.TextPieces.{GroupsRead}
use Rattle.deb_index.proofs.why.DetailedReport.of.Given as goal

abbrev pub invariant-loop-rest : goal.invariant-loop-rest
invariant-loop-rest l =
    OfRelation l.text (λ m. GroupsRead (λ done. HasDetails (shown_by l.fn.versions) (environment_of l.environment) (packages_of l.fn.versions.index.now) done l.answers l.reasons.items l.lens.items) m l.rest)

abbrev pub decreases-loop-rest : goal.decreases-loop-rest
decreases-loop-rest l = length l.rest
