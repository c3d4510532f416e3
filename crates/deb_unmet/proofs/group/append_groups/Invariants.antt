-- The lines of the groups so far.
use Rattle.std.proofs.Common.{◌≡◌, ◌++◌, length}
use Rattle.std.specs.List.{flat_map}
use Rattle.deb_relation.specs.Environments.{environment_of}
use Rattle.deb_index.specs.CanonicalTexts.{OfRelation}
use Rattle.deb_index.proofs.TextPieces.{GroupsRead}
use Rattle.deb_unmet.specs.Paragraphs.{heading_in}
use Rattle.deb_unmet.specs.Scopes.{scope_of}
use Rattle.deb_unmet.specs.Troubles.{group_lines}
use Rattle.deb_unmet.proofs.group.append_groups.Given as goal

abbrev pub invariant-loop-rest : goal.invariant-loop-rest
invariant-loop-rest l =
    OfRelation l.text (λ m. GroupsRead (λ done. l.out.items ≡ l.initial.out.items ++ flat_map (group_lines (environment_of l.question.environment.now) (scope_of l.question) l.tried.applies (heading_in l.tried.paragraph.now) l.field) done) m l.rest)

abbrev pub decreases-loop-rest : goal.decreases-loop-rest
decreases-loop-rest l = length l.rest
