-- Those of the alternatives so far.
use Rattle.std.proofs.Common.{length}
use Rattle.std.specs.List.{flat_map}
use Rattle.deb_index.specs.CanonicalTexts.{OfGroup}
use Rattle.deb_index.proofs.TextPieces.{AlternativesRead}
use Rattle.deb_install.specs.Building.{AppendsRows}
use Rattle.deb_install.proofs.Needed.{each_of}
use Rattle.deb_install.proofs.needs.append_each.Given as goal

abbrev pub invariant-loop-rest : goal.invariant-loop-rest
invariant-loop-rest l =
    OfGroup l.group (λ g. AlternativesRead (λ done. AppendsRows l.initial.groups.rows l.groups.rows l.initial.out.items l.out.items (flat_map (each_of l.needing) done)) g l.rest)

abbrev pub decreases-loop-rest : goal.decreases-loop-rest
decreases-loop-rest l = length l.rest
