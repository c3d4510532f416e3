-- The lines of the alternatives so far.
use Rattle.std.proofs.Common.{◌≡◌, ◌++◌, length}
use Rattle.std.specs.List.{flat_map}
use Rattle.deb_relation.specs.Environments.{environment_of}
use Rattle.deb_index.specs.CanonicalTexts.{OfGroup}
use Rattle.deb_index.specs.Indexes.{packages_of}
use Rattle.deb_index.specs.ShownVersions.{shown_by}
use Rattle.deb_index.specs.Why.{alternative_lines}
use Rattle.deb_index.proofs.TextPieces.{AlternativesRead}
use Rattle.deb_index.proofs.why_lines.append_all.Given as goal

abbrev pub invariant-loop-rest : goal.invariant-loop-rest
invariant-loop-rest l =
    OfGroup l.group (λ group. AlternativesRead (λ done. l.out.items ≡ l.initial.out.items ++ flat_map (alternative_lines (shown_by l.fn.versions) (environment_of l.environment) (packages_of l.fn.versions.index.now)) done) group l.rest)

abbrev pub decreases-loop-rest : goal.decreases-loop-rest
decreases-loop-rest l = length l.rest
