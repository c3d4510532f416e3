-- Those of the groups so far.
use Rattle.std.proofs.Common.{◌≡◌, ◌++◌, length}
use Rattle.deb_index.specs.CanonicalTexts.{OfRelation}
use Rattle.deb_index.proofs.TextPieces.{GroupsRead}
use Rattle.deb_relation.specs.Environments.{environment_of}
use Rattle.deb_relation.specs.Views.{names_of}
use Rattle.deb_install.proofs.SureTexts.{texts_of}
use Rattle.deb_install.proofs.sure_groups.append_sure.Given as goal

abbrev pub invariant-loop-rest : goal.invariant-loop-rest
invariant-loop-rest l =
    OfRelation l.text (λ m. GroupsRead (λ done. names_of l.out.items ≡ names_of l.initial.out.items ++ texts_of (environment_of l.needing.environment.now) done) m l.rest)

abbrev pub decreases-loop-rest : goal.decreases-loop-rest
decreases-loop-rest l = length l.rest
