-- Those of the alternatives so far.
use Rattle.std.proofs.Common.{◌≡◌, ◌++◌, length}
use Rattle.std.specs.List.{flat_map}
use Rattle.deb_index.specs.CanonicalTexts.{OfGroup}
use Rattle.deb_index.proofs.TextPieces.{AlternativesRead}
use Rattle.deb_install.proofs.Excluded.{alternatives_of}
use Rattle.deb_install.proofs.exclusions.append_group.Given as goal

abbrev pub invariant-loop-rest : goal.invariant-loop-rest
invariant-loop-rest l =
    OfGroup l.group (λ g. AlternativesRead (λ done. l.out.items ≡ l.initial.out.items ++ flat_map (alternatives_of l.excluding) done) g l.rest)

abbrev pub decreases-loop-rest : goal.decreases-loop-rest
decreases-loop-rest l = length l.rest
