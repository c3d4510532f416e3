-- Whether one of the alternatives so far does.
use Rattle.std.proofs.Common.{◌≡◌, length}
use Rattle.std.specs.List.{list_any}
use Rattle.deb_index.specs.CanonicalTexts.{OfGroup}
use Rattle.deb_index.proofs.TextPieces.{AlternativesRead}
use Rattle.deb_install.proofs.Needed.{sure_of}
use Rattle.deb_install.proofs.needs.some_surely_applies.Given as goal

abbrev pub invariant-loop-rest : goal.invariant-loop-rest
invariant-loop-rest l =
    OfGroup l.group (λ g. AlternativesRead (λ done. l.found ≡ list_any (sure_of l.needing) done) g l.rest)

abbrev pub decreases-loop-rest : goal.decreases-loop-rest
decreases-loop-rest l = length l.rest
