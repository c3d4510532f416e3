-- Those of the groups so far.
use Rattle.std.proofs.Common.{◌≡◌, ◌++◌, length}
use Rattle.std.specs.List.{flat_map}
use Rattle.deb_index.specs.CanonicalTexts.{OfRelation}
use Rattle.deb_index.proofs.TextPieces.{GroupsRead}
use Rattle.deb_install.proofs.Excluded.{groups_of}
use Rattle.deb_install.proofs.exclusions.append_exclusions.Given as goal

abbrev pub invariant-loop-rest : goal.invariant-loop-rest
invariant-loop-rest l =
    OfRelation l.text (λ m. GroupsRead (λ done. l.out.items ≡ l.initial.out.items ++ flat_map (groups_of l.excluding) done) m l.rest)

abbrev pub decreases-loop-rest : goal.decreases-loop-rest
decreases-loop-rest l = length l.rest
