-- Those of the groups so far.
use Rattle.std.proofs.Common.{length}
use Rattle.std.specs.List.{flat_map}
use Rattle.deb_relation.specs.Applying.{Environment}
use Rattle.deb_index.specs.CanonicalTexts.{OfRelation}
use Rattle.deb_index.proofs.TextPieces.{GroupsRead}
use Rattle.deb_install.specs.Known.{AppendsKnown, Knows}
use Rattle.deb_install.proofs.Needed.{rows_of}
use Rattle.deb_install.proofs.needs.append_groups.Given as goal

abbrev pub invariant-loop-rest : goal.invariant-loop-rest
invariant-loop-rest l =
    (environment : Environment) → Knows l.needing environment l.initial.groups.rows l.initial.known
    → OfRelation l.text (λ m. GroupsRead (λ done. AppendsKnown l.needing environment l.initial.groups.rows l.groups.rows l.known l.initial.out.items l.out.items (flat_map (rows_of l.needing) done)) m l.rest)

abbrev pub decreases-loop-rest : goal.decreases-loop-rest
decreases-loop-rest l = length l.rest
