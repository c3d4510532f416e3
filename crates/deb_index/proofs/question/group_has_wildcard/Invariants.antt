-- No alternative so far has a wildcard.
use Rattle.std.proofs.Common.{◌≡◌, false, length}
use Rattle.std.specs.List.{list_any}
use Rattle.deb_relation.specs.Tests.{has_wildcard}
use Rattle.deb_index.specs.CanonicalTexts.{OfGroup}
use Rattle.deb_index.proofs.TextPieces.{AlternativesRead}
use Rattle.deb_index.proofs.question.group_has_wildcard.Given as goal

abbrev pub invariant-loop-rest : goal.invariant-loop-rest
invariant-loop-rest l = OfGroup l.text (λ group. AlternativesRead (λ done. list_any has_wildcard done ≡ false) group l.rest)

abbrev pub decreases-loop-rest : goal.decreases-loop-rest
decreases-loop-rest l = length l.rest
