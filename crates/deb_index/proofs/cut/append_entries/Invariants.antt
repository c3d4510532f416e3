-- The entries of the groups so far were appended, and what is left is the text of groups.
use Rattle.std.proofs.Common.{drop, length, ◌-◌, ◌≡◌}
use Rattle.deb_relation.specs.Meaning.{Relation}
use Rattle.deb_relation.specs.Regular.{IsRegularRelation}
use Rattle.deb_relation.specs.Texts.{relation_text}
use Rattle.deb_index.proofs.Cutting.{SoFar}
use Rattle.deb_index.proofs.cut.append_entries.Given as goal

abbrev pub invariant-loop-start : goal.invariant-loop-start
invariant-loop-start l = (m : Relation) → IsRegularRelation m → drop l.offset l.text ≡ relation_text m → SoFar l.text l.number l.start l.initial.entries.items l.entries.items m

abbrev pub decreases-loop-start : goal.decreases-loop-start
decreases-loop-start l = length l.text - l.start
